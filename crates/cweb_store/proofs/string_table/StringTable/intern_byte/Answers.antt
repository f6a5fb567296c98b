use Rattle.cweb_store.proofs.Common.{◌≡◌, ◌∷◌, [], slice_index_or, sym, subst, ◌∙◌, arith, IsByteId, InternsWord, table_model}
use Rattle.cweb_store.proofs.ByteIdLemmas.{is-sign, one-byte}
use Rattle.cweb_store.proofs.string_table.StringTable.intern_byte.Goals as goal

pub invariant_of-self : goal.invariant_of-self
invariant_of-self c =
    let s = c.self.inside in
    let old = c.args.self.now in
    let new = c.intern_uncached.new.self in
    let word = c.args.word.now in
    let byte = slice_index_or word 0 0 in
    let number = c.in_ok-number.number in
    let one = one-byte word 0 (omega (arith, c.in-len1.len_at_least)) (omega (arith, c.in-len1.len_below)) in
    let interns : InternsWord old (byte ∷ []) number new =
    subst (λ string. InternsWord old string number new) (sym one) c.in_ok-number.ensures in
    let kept = table_model s.strings s.table.words s.sorted.entries in
    let same : kept ≡ new = c.self.view_is ∙ c.begin.ensures in
    record {
      interned = c.self.invariant.interned;
      by_byte = c.set_byte_id.ensures.byte_ids kept c.self.invariant.by_byte
          (subst (λ table. IsByteId table byte number) (sym same) (is-sign old new byte number interns));
    }
