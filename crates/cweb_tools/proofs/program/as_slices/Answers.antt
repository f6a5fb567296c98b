use Rattle.cweb_tools.proofs.Common.{arith, common_steps}
use Rattle.cweb_tools.proofs.program.as_slices.Goals as goal

pub loop-word-init : goal.loop-word-init
loop-word-init c = grind (arith, common_steps)

pub loop-word-preserved : goal.loop-word-preserved
loop-word-preserved c = grind (arith, common_steps)

pub returns : goal.returns
returns c = grind (arith, common_steps)
