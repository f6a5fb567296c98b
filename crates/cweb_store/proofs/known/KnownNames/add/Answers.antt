use Rattle.cweb_store.proofs.Common.{◌≡◌, ◌∙◌, sym, ap, bytes_eq, position_or_len, spellings, length, length-map, map, arith, Some, slice_get, slice_get-map, slice_get_within, id, name_at, names_at, occurrence_text, NamesSoFar}
use Rattle.cweb_store.specs.inner.StringLists.{string_at}
use Rattle.cweb_store.proofs.StringListLemmas.{get-string}
use Rattle.cweb_store.proofs.NameLemmas.{with_text-there, with_text-new, known-push}
use Rattle.cweb_store.proofs.KnownLemmas.{known-name, next-name, names-push, within-push}
use Rattle.cweb_store.proofs.known.KnownNames.add.Goals as goal

pub returns-then-id-len-clause-names : goal.returns-then-id-len-clause-names
returns-then-id-len-clause-names c =
    let ns = c.args.self.now.names in
    let s = c.self.inside in
    let strings = map occurrence_text s.occurrences.now in
    let text = string_at c.args.self.now.strings c.args.first in
    let count : length ns ≡ length s.firsts.items =
    ap (λ (m : NamesSoFar). length m.names) (sym c.self.view_is) ∙ length-map s.firsts.items (name_at strings) in
    sym (with_text-there c.args.first ns text (known-name ns text c.args.id.0 c.requires.number
    (omega (arith, count, c.if-id-len.true, c.len.ensures, s.firsts.ok.0))))

-- The number of the name, by the fields.
number : (c : goal.After-push_reserved) →
    let strings = map occurrence_text c.self.inside.occurrences.now in
    c.args.id.0 ≡ position_or_len (bytes_eq (string_at strings c.args.first))
    (spellings (names_at strings c.self.inside.firsts.items))
number c = c.requires.number ∙ ap (λ (m : NamesSoFar). position_or_len (bytes_eq (string_at m.strings c.args.first))
    (spellings m.names)) (sym c.self.view_is)

pub invariant_of-self-2 : goal.invariant_of-self-2
invariant_of-self-2 c =
    let s = c.self.inside in
    let strings = map occurrence_text s.occurrences.now in
    let ns = names_at strings s.firsts.items in
    let text = c.text-spelling.result.now in
    let given : slice_get strings c.args.first ≡ Some text = grind (arith, slice_get-map, c.text-spelling.ensures) in
    let is : string_at strings c.args.first ≡ text = get-string strings c.args.first text given in
    let next = next-name ns text c.args.id.0 (number c ∙ ap (λ t. position_or_len (bytes_eq t) (spellings ns)) is)
    (λ h. omega (arith, h, c.if-id-len.false, c.len.ensures, s.firsts.ok.0, length-map s.firsts.items (name_at strings))) in
    rw (c.push_reserved.ensures.items, c.in_ok-reserve.ensures.items, c.in_ok-insert.ensures.entries, c.new.ensures)
    (record {
      sorted = rw (names-push strings s.firsts.items c.args.first text given)
          (known-push s.sorted.entries ns text c.args.first c.args.id c.self.invariant.sorted next.0 (ap id next.1));
      within = within-push (length strings) s.firsts.items c.args.first c.self.invariant.within
          (slice_get_within strings c.args.first text given);
    })

pub returns-clause-names : goal.returns-clause-names
returns-clause-names c =
    let s = c.self.inside in
    let strings = map occurrence_text s.occurrences.now in
    let ns = names_at strings s.firsts.items in
    let text = c.text-spelling.result.now in
    let given : slice_get strings c.args.first ≡ Some text = grind (arith, slice_get-map, c.text-spelling.ensures) in
    let is : string_at strings c.args.first ≡ text = get-string strings c.args.first text given in
    let next = next-name ns text c.args.id.0 (number c ∙ ap (λ t. position_or_len (bytes_eq t) (spellings ns)) is)
    (λ h. omega (arith, h, c.if-id-len.false, c.len.ensures, s.firsts.ok.0, length-map s.firsts.items (name_at strings))) in
    rw (c.push_reserved.ensures.items, c.in_ok-reserve.ensures.items, ← c.self.view_is, is)
    (names-push strings s.firsts.items c.args.first text given ∙ sym (with_text-new c.args.first ns text next.0))
