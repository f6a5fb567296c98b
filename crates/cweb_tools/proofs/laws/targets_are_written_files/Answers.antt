use Rattle.cweb_tools.proofs.Targets.{targets_are_written}
use Rattle.cweb_tools.proofs.laws.targets_are_written_files.Goals as goal

pub returns : goal.returns
returns c = targets_are_written
