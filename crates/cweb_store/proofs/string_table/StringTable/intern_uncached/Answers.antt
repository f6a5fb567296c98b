use Rattle.cweb_store.proofs.Common.{◌≡◌, Some, None, ℕ, Vec, sym, ◌∙◌, ap, lookup, is_eq, nat_cmp, slice_cmp, Global, has_word}
use Rattle.cweb_store.proofs.ByteIdLemmas.{byte_ids-word}
use Rattle.cweb_store.proofs.InterningLemmas.{found-known, mapped-known, not-interned, sorted-interned, sorted-keeps}
use Rattle.cweb_store.proofs.string_table.StringTable.intern_uncached.Goals as goal

pub returns-in-Some : goal.returns-in-Some
returns-in-Some c =
    let s = c.self.inside in
    rw (← c.self.view_is)
    (found-known s.strings s.table.words s.sorted.entries c.args.word.now c.in-Some.number c.in-Some.ensures)

pub invariant_of-self-then-is_full : goal.invariant_of-self-then-is_full
invariant_of-self-then-is_full c =
    let s = c.self.inside in
    let word = c.args.word.now in
    let number = c.in_ok-number.number in
    let interned = c.self.invariant.interned in
    record {
      interned = sorted-interned s.strings c.intern_sorted.new.strings s.table.words s.sorted.entries
          c.intern_sorted.new.sorted.entries word number interned c.in_ok-number.ensures.ok;
      by_byte = byte_ids-word _ _ s.byte_ids.items word number (sorted-keeps s.strings
          c.intern_sorted.new.strings s.table.words
          s.sorted.entries c.intern_sorted.new.sorted.entries word number interned c.in_default.ensures
          c.in_ok-number.ensures.ok) c.self.invariant.by_byte;
    }

pub returns-then-is_full : goal.returns-then-is_full
returns-then-is_full c =
    let s = c.self.inside in
    rw (← c.self.view_is)
    (sorted-keeps s.strings c.intern_sorted.new.strings s.table.words s.sorted.entries
    c.intern_sorted.new.sorted.entries c.args.word.now c.in_ok-number.number c.self.invariant.interned
    c.in_default.ensures c.in_ok-number.ensures.ok)

pub returns-in-Some-copied : goal.returns-in-Some-copied
returns-in-Some-copied c =
    let s = c.self.inside in
    let word = c.args.word.now in
    let found : lookup (λ (k : Vec ℕ Global). is_eq (slice_cmp nat_cmp word k.items)) s.sorted.entries
    ≡ Some c.in-Some-copied.number = sym c.get.ensures.value ∙ sym c.copied.ensures ∙ c.in-Some-copied.is in
    rw (← c.self.view_is)
    (mapped-known s.strings s.table.words s.sorted.entries word c.in-Some-copied.number c.self.invariant.interned found)

pub add_new_word-requires-clause-absent : goal.add_new_word-requires-clause-absent
add_new_word-requires-clause-absent c =
    let s = c.self.inside in
    let word = c.args.word.now in
    let absent : lookup (λ (k : Vec ℕ Global). is_eq (slice_cmp nat_cmp word k.items)) s.sorted.entries ≡ None =
    sym c.get.ensures.value ∙ sym c.copied.ensures ∙ c.in_default-copied.is in
    ap (λ k. has_word k word) (sym c.self.view_is)
    ∙ not-interned s.strings s.table.words s.sorted.entries word c.in_default.ensures absent
