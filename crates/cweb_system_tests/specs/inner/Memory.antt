-- The state of a file system in memory.
use Rattle.std.specs.Prelude.{ℕ, Bool, List, drop, string_bytes, take}
use Rattle.cweb_system_tests.specs.declared.memory_folder.layout.Layout.{Layout}
use Rattle.cweb_system_tests.specs.declared.memory_folder.MemoryFile.{MemoryFile}
use Rattle.cweb_system_tests.specs.declared.memory_folder.MemoryFolder.{MemoryFolder}
use Rattle.cweb_system.specs.Tree.{Tree}
use Rattle.cweb_system.specs.declared.node.FileKey.{FileKey}
use Rattle.cweb_system.specs.Steps.{Disk}
use Rattle.cweb_system_tests.specs.inner.Log.{past_by, tree_of}

abbrev pub memory_tree : MemoryFolder → Tree
memory_tree folder = tree_of folder.layout folder.log.items

abbrev pub memory_layout : MemoryFolder → Layout
memory_layout folder = folder.layout

abbrev pub memory_failed : MemoryFolder → Bool
memory_failed folder = folder.failed

abbrev pub handle_key : MemoryFile → FileKey
handle_key handle = handle.key

abbrev pub memory_disk : MemoryFolder → Disk
memory_disk folder = record {
  tree = memory_tree folder;
  past = past_by folder.layout (take folder.begun folder.log.items) (drop folder.begun folder.log.items);
  failed = folder.failed;
}

abbrev pub handle_position : MemoryFile → ℕ
handle_position handle = handle.position

abbrev pub handle_name : MemoryFile → List ℕ
handle_name handle = string_bytes handle.name
