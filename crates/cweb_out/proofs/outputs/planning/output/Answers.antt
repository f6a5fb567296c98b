use Rattle.cweb_out.proofs.Common.{arith}
use Rattle.cweb_out.proofs.PlanLemmas.{bad-utf8, good-name}
use Rattle.cweb_out.proofs.outputs.planning.output.Goals as goal

pub returns-in_default : goal.returns-in_default
returns-in_default c = grind (arith, bad-utf8)

pub returns : goal.returns
returns c = grind (arith, good-name)
