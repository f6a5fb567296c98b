use Rattle.cweb_lines.proofs.Common.{arith, common_steps}
use Rattle.cweb_lines.proofs.files.FileNames.get.Goals as goal

pub returns : goal.returns
returns c = grind (arith, common_steps)
