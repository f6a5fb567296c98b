use Rattle.std.specs.Prelude.{take}
use Rattle.cweb_system_tests.specs.inner.Log.{KeysBelow}
use Rattle.cweb_system_tests.proofs.memory_folder.MemoryFolder.new_number.Given as goal

abbrev pub invariant-loop-change : goal.invariant-loop-change
invariant-loop-change l = KeysBelow l.next (take l.change-index l.change-items)
