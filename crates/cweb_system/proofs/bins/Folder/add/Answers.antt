use Rattle.std.proofs.Common.{arith}
use Rattle.cweb_system.proofs.Models.{model_is}
use Rattle.cweb_system.proofs.Views.{appending, files_left}
use Rattle.cweb_system.proofs.bins.Folder.add.Goals as goal

pub returns-in-Ok-clause-ok : goal.returns-in-Ok-clause-ok
returns-in-Ok-clause-ok g c = grind (arith, model_is, files_left, appending)
