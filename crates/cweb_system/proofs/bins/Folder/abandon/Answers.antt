use Rattle.std.proofs.Common.{arith}
use Rattle.cweb_system.proofs.Models.{model_is}
use Rattle.cweb_system.proofs.Views.{files_left}
use Rattle.cweb_system.proofs.bins.Folder.abandon.Goals as goal

pub returns-in-Some-clause-gone : goal.returns-in-Some-clause-gone
returns-in-Some-clause-gone g c = grind (arith, model_is, files_left)
