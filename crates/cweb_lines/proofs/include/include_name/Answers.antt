use Rattle.cweb_lines.proofs.Common.{arith, common_steps}
use Rattle.cweb_lines.proofs.include.include_name.Goals as goal

pub returns : goal.returns
returns c = grind (arith, common_steps)
