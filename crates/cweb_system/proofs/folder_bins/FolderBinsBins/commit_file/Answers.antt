use Rattle.std.proofs.Common.{arith}
use Rattle.cweb_system.proofs.Steps.{steps_kept}
use Rattle.cweb_system.proofs.folder_bins.FolderBinsBins.commit_file.Goals as goal

pub invariant_of-self : goal.invariant_of-self
invariant_of-self g c = grind (arith, steps_kept)
