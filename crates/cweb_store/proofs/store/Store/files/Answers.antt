use Rattle.cweb_store.proofs.Common.{◌≡◌, ◌<◌, List, length, sym, ◌∙◌, ap, subst, All, NameId}
use Rattle.cweb_store.specs.Names as spec
use Rattle.cweb_store.proofs.BoundLemmas.{files-within}
use Rattle.cweb_store.proofs.store.Store.files.Goals as goal

pub returns-clause-within : goal.returns-clause-within
returns-clause-within c =
    let os = c.args.self.now.occurrences in
    let files : c.as_slice.result.now ≡ spec.files os =
    c.as_slice.ensures.keys ∙ c.self.invariant.answers.forms ∙ ap (λ v. spec.files v.occurrences) c.self.view_is in
    subst (λ (ns : List NameId). All (λ id. id.0 < length (spec.names os)) ns) (sym files) (files-within os)
