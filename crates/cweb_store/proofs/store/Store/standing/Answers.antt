use Rattle.cweb_store.proofs.Common.{◌≡◌, ◌<◌, Option, length, sym, ◌∙◌, ap, subst, IfSome, NameId}
use Rattle.cweb_store.specs.Names as spec
use Rattle.cweb_store.proofs.BoundLemmas.{standing-within}
use Rattle.cweb_store.proofs.store.Store.standing.Goals as goal

pub returns-clause-within : goal.returns-clause-within
returns-clause-within c =
    let os = c.args.self.now.occurrences in
    let resolutions =
    c.as_slice.ensures.value ∙ c.self.invariant.answers.settled
    ∙ ap (λ v. spec.resolutions v.occurrences) c.self.view_is in
    let name : c.resolved_at.result ≡ spec.resolved_at (spec.resolutions os) c.args.name.0 =
    c.resolved_at.ensures ∙ ap (λ rs. spec.resolved_at rs c.args.name.0) resolutions in
    subst (λ (o : Option NameId). IfSome o (λ id. id.0 < length (spec.names os)))
    (sym name) (standing-within os c.args.name.0)
