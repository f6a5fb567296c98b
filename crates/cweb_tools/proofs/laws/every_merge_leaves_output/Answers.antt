use Rattle.cweb_tools.proofs.MergePromisesProved.{leave_merge}
use Rattle.cweb_tools.proofs.laws.every_merge_leaves_output.Goals as goal

pub returns : goal.returns
returns c = leave_merge
