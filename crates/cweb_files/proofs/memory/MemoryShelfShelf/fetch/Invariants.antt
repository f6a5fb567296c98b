use Rattle.std.proofs.Common.{◌<◌, length, take}
use Rattle.std.specs.Prelude.{IfSome}
use Rattle.cweb_files.specs.Shelves.{Finds}
use Rattle.cweb_files.specs.surface.MemoryDevices.{contents_in_entries, contents_read}
use Rattle.cweb_files.proofs.memory.MemoryShelfShelf.fetch.Given as goal

abbrev pub invariant-loop-i : goal.invariant-loop-i
invariant-loop-i l = record {
  found : Finds (contents_read (contents_in_entries (take l.i l.entry-items)) l.entry-items) l.name l.found;
  is_open : IfSome l.found (λ r. r.entry < length l.entry-items);
}
