use Rattle.cweb_store.proofs.Common.{◌≡◌, ◌+◌, ◌∷◌, drop, arith, common_steps}
use Rattle.cweb_store.proofs.NameLemmas.{prefix_at}
use Rattle.cweb_store.proofs.OccurrenceTableLemmas.{drop-at}
use Rattle.cweb_store.proofs.occurrences.Occurrences.files.Goals as goal

pub loop-i-preserved : goal.loop-i-preserved
loop-i-preserved c = λ strings.
    let rs = c.deref-occurrence-items.result.now in
    let f = prefix_at rs c.loop-i.i (omega (arith, c.loop-i-test.true)) in
    let here : drop c.loop-i.i rs ≡ f.item ∷ drop (c.loop-i.i + 1) rs = drop-at rs c.loop-i.i f.item f.there in
    grind (arith, common_steps, here, c.loop-i.invariant strings)
