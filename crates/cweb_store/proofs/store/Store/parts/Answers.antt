use Rattle.cweb_store.proofs.Common.{◌<◌, ◌↔◌, List, length, sym, subst, IsTrue, is_of, has_part}
use Rattle.cweb_store.specs.declared.parts.Part.{Part}
use Rattle.cweb_store.specs.Names as spec
use Rattle.cweb_store.proofs.PartLemmas.{numbers-some}
use Rattle.cweb_store.proofs.store.Store.parts.Goals as goal

pub returns-clause-some : goal.returns-clause-some
returns-clause-some c =
    let ps = c.args.self.now.parts in
    let rs = spec.resolutions c.args.self.now.occurrences in
    subst (λ (xs : List Part). IsTrue (has_part rs ps c.args.name) ↔ 0 < length xs)
    (sym c.wanted.ensures.ranges.numbers) (numbers-some (is_of rs c.args.name) ps)
