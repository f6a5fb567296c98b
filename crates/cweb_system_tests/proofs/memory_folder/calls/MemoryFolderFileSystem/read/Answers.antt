use Rattle.std.proofs.Common.{◌∙◌, sym, arith, []}
use Rattle.cweb_system_tests.specs.inner.Log.{bytes_by}
use Rattle.cweb_system_tests.proofs.Scans.{next_byte}
use Rattle.cweb_system_tests.proofs.memory_folder.calls.MemoryFolderFileSystem.read.Goals as goal

pub returns-clause-ok : goal.returns-clause-ok
returns-clause-ok c = λ some.
    next_byte (bytes_by c.args.self.now.log.items c.args.file.now.key []) c.args.piece.now c.args.file.now.position
    c.in-Some.byte (sym c.byte_at.ensures.value ∙ c.in-Some.is) (grind (arith, c.is_empty.ensures, c.if-is_empty.false))
