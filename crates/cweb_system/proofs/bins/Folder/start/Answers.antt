use Rattle.std.proofs.Common.{arith}
use Rattle.cweb_system.proofs.Models.{after_discard, refused_device, refused_memory}
use Rattle.cweb_system.proofs.Views.{files_then}
use Rattle.cweb_system.proofs.bins.Folder.start.Goals as goal

pub returns-in-Ok-clause-begun : goal.returns-in-Ok-clause-begun
returns-in-Ok-clause-begun g c = grind (arith, after_discard, files_then)

pub returns-then-eq-clause-err : goal.returns-then-eq-clause-err
returns-then-eq-clause-err g c = grind (arith, after_discard, files_then, refused_device)

pub returns-else-eq-clause-err : goal.returns-else-eq-clause-err
returns-else-eq-clause-err g c = grind (arith, after_discard, files_then, refused_memory)
