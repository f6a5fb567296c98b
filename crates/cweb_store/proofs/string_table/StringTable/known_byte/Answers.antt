use Rattle.cweb_store.proofs.Common.{◌≡◌, ◌+◌, ℕ, None, Some, slice_get, slice_index_or, sym, subst, ◌∙◌, ap, arith, InternsWord, table_model}
use Rattle.std.specs.Prelude.{IfSome, Option}
use Rattle.cweb_store.proofs.ByteIdLemmas.{sign-known, one-byte}
use Rattle.cweb_store.proofs.string_table.StringTable.known_byte.Goals as goal

map_some : {P Q : ℕ → Type 0} (o : Option ℕ) → ((n : ℕ) → P n → Q n) → IfSome o P → IfSome o Q
map_some (Some n) f h = f n h
map_some None f h = tt

pub returns-in-len1 : goal.returns-in-len1
returns-in-len1 c =
    let s = c.self.inside in
    let kept = table_model s.strings s.table.words s.sorted.entries in
    let string = c.args.string.now in
    let byte = slice_index_or string 0 0 in
    let one = one-byte string 0 (omega (arith, c.in-len1.len_at_least)) (omega (arith, c.in-len1.len_below)) in
    map_some c.byte_id.result (λ number known.
    let there : slice_get s.byte_ids.items byte ≡ Some (number + 1) =
    ap (λ byte_ids. slice_get byte_ids byte) (sym c.as_slice.ensures.value) ∙ known in
    rw (← c.self.view_is)
    (subst (λ string. InternsWord kept string number kept) one
    (sign-known kept s.byte_ids.items byte number c.self.invariant.by_byte there)))
    c.byte_id.ensures.some
