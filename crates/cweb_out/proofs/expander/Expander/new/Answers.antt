use Rattle.cweb_out.proofs.Common.{arith}
use Rattle.cweb_out.proofs.StackUses.{Valid-one}
use Rattle.cweb_out.proofs.Roots.{root_below}
use Rattle.cweb_out.proofs.expander.Expander.new.Goals as goal

pub returns-clause-valid : goal.returns-clause-valid
returns-clause-valid c = grind (arith, root_below, Valid-one)
