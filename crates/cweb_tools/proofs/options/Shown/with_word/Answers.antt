use Rattle.cweb_tools.proofs.Common.{arith, common_steps}
use Rattle.cweb_tools.proofs.options.Shown.with_word.Goals as goal

pub returns-in-len1-up : goal.returns-in-len1-up
returns-in-len1-up c = grind (arith, common_steps)
