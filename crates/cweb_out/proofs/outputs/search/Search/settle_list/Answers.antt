use Rattle.cweb_out.proofs.Common.{Stored}
use Rattle.cweb_out.proofs.Searches.{settled}
use Rattle.cweb_out.proofs.outputs.search.Search.settle_list.Goals as goal

pub returns-in-Some-clause-settles : goal.returns-in-Some-clause-settles
returns-in-Some-clause-settles c =
    let w : Stored = c.args.store.now in
    settled w c.args.root c.in-Some.name (λ names. names.items) c.settle.result c.in-Some.is c.settle.ensures.settles
