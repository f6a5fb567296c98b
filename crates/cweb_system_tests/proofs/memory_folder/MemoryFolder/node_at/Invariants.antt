use Rattle.std.specs.Prelude.{◌≡◌, take, None}
use Rattle.cweb_system_tests.specs.inner.Log.{nodes_by}
use Rattle.cweb_system_tests.proofs.memory_folder.MemoryFolder.node_at.Given as goal

abbrev pub invariant-loop-change : goal.invariant-loop-change
invariant-loop-change l = l.found ≡ nodes_by (take l.change-index l.change-items) l.place None
