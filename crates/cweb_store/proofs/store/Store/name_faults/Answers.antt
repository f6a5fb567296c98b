use Rattle.cweb_store.proofs.Common.{◌≡◌, ◌<◌, List, length, sym, ◌∙◌, ap, subst, All, NameFault, faults}
use Rattle.cweb_store.proofs.BoundLemmas.{faults-within}
use Rattle.cweb_store.proofs.store.Store.name_faults.Goals as goal

pub returns-clause-within : goal.returns-clause-within
returns-clause-within c =
    let v = c.args.self.now in
    let faults : c.as_slice.result.now ≡ faults v.occurrences v.parts =
    c.as_slice.ensures.value ∙ c.self.invariant.answers.found
    ∙ ap (λ w. faults w.occurrences w.parts) c.self.view_is in
    subst (λ (fs : List NameFault). All (λ fault. fault.occurrence.0 < length v.occurrences) fs)
    (sym faults) (faults-within v.occurrences v.parts)
