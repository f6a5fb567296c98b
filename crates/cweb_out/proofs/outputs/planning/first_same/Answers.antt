use Rattle.cweb_out.proofs.Common.{arith}
use Rattle.cweb_out.proofs.Finds.{find-at, find-more}
use Rattle.cweb_out.proofs.outputs.planning.first_same.Goals as goal

pub returns-then-is_main : goal.returns-then-is_main
returns-then-is_main c = grind (arith, find-at)

pub files-preserved : goal.files-preserved
files-preserved c = grind (arith, find-more)
