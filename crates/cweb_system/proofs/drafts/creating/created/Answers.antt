use Rattle.std.proofs.Common.{arith}
use Rattle.cweb_system.proofs.Files.{leaves_files_then}
use Rattle.cweb_system.proofs.drafts.creating.created.Goals as goal

pub loop-preserved : goal.loop-preserved
loop-preserved g c = grind (arith, leaves_files_then)
