use Rattle.cweb_out.proofs.Common.{arith}
use Rattle.cweb_out.proofs.Waits.{top-name, on-top}
use Rattle.cweb_out.proofs.Walks.{path-cycle}
use Rattle.cweb_out.proofs.outputs.search.Search.settle.Goals as goal

pub go_on-requires-clause-name : goal.go_on-requires-clause-name
go_on-requires-clause-name c =
    let top = c.in-Some.top in
    top-name top.name c.names.invariant.fits (rw c.in-Some.ensures.items (on-top c.pop.new.self.items top))

pub returns-in-Some-2-clause-settles : goal.returns-in-Some-2-clause-settles
returns-in-Some-2-clause-settles c = grind (arith, path-cycle)
