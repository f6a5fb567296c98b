use Rattle.cweb_out.proofs.Common.{refl, arith}
use Rattle.cweb_out.proofs.Finds.{find-more}
use Rattle.cweb_out.proofs.PlanLemmas.{cycle-found}
use Rattle.cweb_out.proofs.outputs.search.first_cycle.Goals as goal

pub returns-in-Some : goal.returns-in-Some
returns-in-Some c =
    cycle-found c.args.store.now c.args.roots.now c.roots.root-index _ _ c.in-Some.cycle.items c.roots-test.true
    refl c.roots.invariant.before (rw c.in-Some.is at c.in_ok-cycle.ensures.settles)

pub roots-preserved : goal.roots-preserved
roots-preserved c = grind (arith, find-more)
