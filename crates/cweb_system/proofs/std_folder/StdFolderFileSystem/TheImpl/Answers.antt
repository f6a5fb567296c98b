-- An unobservable file system owes only what it can count.
use Rattle.std.proofs.Common.{arith}
use Rattle.cweb_system.proofs.std_folder.StdFolderFileSystem.TheImpl.Goals as goal

pub read-tells : goal.read-tells
read-tells g x c = grind arith

pub write-tells : goal.write-tells
write-tells g x c = grind arith
