use Rattle.cweb_files.specs.Shelves.{ShelfContents, ShelfModel}
use Rattle.cweb_scan.proofs.Common.{◌≤◌, ◌+◌, ◌*◌, ◌-◌, List, BorrowsLines, Event, SoFar, to_come, so_far, cost, HasTaken}
use Rattle.cweb_scan.proofs.scanning.take_borrowed.Given as goal

abbrev pub invariant-stretches : goal.invariant-stretches
invariant-stretches g l = record {
  borrowed : BorrowsLines l.fn.merger.run l.merger.run;
  taken : (shelf : ShelfModel g.row.S-R.Denot) (first : SoFar) (all : ShelfContents g.row.S-R.Denot → List Event)
      → HasTaken shelf first (so_far l.fn.merger) all (λ seen. to_come seen l.fn.merger) l.fn.reader
      → HasTaken shelf first (so_far l.merger) all (λ seen. to_come seen l.merger) l.reader;
  room : cost l.reader ≤ 3 * ((so_far l.merger).count.bytes + (so_far l.merger).count.lines);
}

abbrev pub decreases-stretches : goal.decreases-stretches
decreases-stretches g l = 16777216 - (so_far l.merger).count.lines
