use Rattle.std.specs.Prelude.{◌≡◌, take, [], length}
use Rattle.std.specs.List.{slice_get}
use Rattle.cweb_system_tests.specs.inner.Log.{bytes_by}
use Rattle.cweb_system_tests.proofs.memory_folder.MemoryFolder.byte_at.Given as goal

abbrev pub invariant-loop-change : goal.invariant-loop-change
invariant-loop-change l = record {
  size : l.sought.size ≡ length (bytes_by (take l.change-index l.change-items) l.key []);
  byte : l.sought.byte ≡ slice_get (bytes_by (take l.change-index l.change-items) l.key []) l.position;
}
