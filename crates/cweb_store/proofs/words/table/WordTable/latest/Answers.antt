use Rattle.cweb_store.proofs.Common.{◌≡◌, ℕ, List, Option, Some, None, IfSome, length, get_or, slice_get, slice_get-get_or, sym, ◌∙◌, ap, ltb-true}
use Rattle.std.specs.Option.{is_some}
use Rattle.std.specs.Prelude.{nat_lt}
use Rattle.cweb_store.specs.declared.words.word.Word.{Word}
use Rattle.cweb_store.proofs.words.table.WordTable.latest.Goals as goal

found : {R : Type 0} (now : R → Word) (o : Option R) (ws : List Word) (i : ℕ) → is_some o ≡ nat_lt i (length ws)
    → IfSome o (λ r. now r ≡ get_or ws i (now r)) → IfSome o (λ r. (k : ℕ) × (slice_get ws k ≡ Some (now r)))
found now None ws i there is = tt
found now (Some r) ws i there is =
    (i, slice_get-get_or ws i (now r) (ltb-true i (length ws) (sym there)) ∙ ap Some (sym is))

pub returns : goal.returns
returns c =
    rw (← c.self.view_is)
    (found (λ r. r.now) c.get.result c.self.inside.words.items _ (rw c.deref.ensures.value at c.get.ensures.lookup.0)
    (rw c.deref.ensures.value at c.get.ensures.lookup.1))
