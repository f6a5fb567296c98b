use Rattle.cweb_files.specs.Shelves.{Observed, ShelfModel}
use Rattle.cweb_scan.proofs.Common.{◌≡◌, ◌≤◌, ◌+◌, ◌*◌, ◌-◌, None, KeepsReported, KnowsReaders, to_come, so_far, stop_in, Merger, ReaderModel, cost, HasTaken}
use Rattle.cweb_scan.proofs.scanning.take_lines.Given as goal

-- Lines were taken, and nothing stopped.
pub record HasScanned {S R : Type 0} (was now : ShelfModel R) (old merger : Merger S R)
    (reader : ReaderModel) : Type 0 where
  pub same : now ≡ was
  pub readers : Observed was (λ seen. KnowsReaders seen old → KnowsReaders seen merger)
  pub running : stop_in merger ≡ None
  pub reported : KeepsReported (so_far old) (so_far merger)
  pub taken : HasTaken was (so_far old) (so_far merger) (λ seen. to_come seen old) (λ seen. to_come seen merger) reader
  pub room : cost reader ≤ 3 * ((so_far merger).count.bytes + (so_far merger).count.lines)

abbrev pub invariant-lines : goal.invariant-lines
invariant-lines g l = HasScanned (g.S.Shelf.model l.fn.shelf) (g.S.Shelf.model l.shelf) l.fn.merger l.merger l.reader

abbrev pub decreases-lines : goal.decreases-lines
decreases-lines g l = 16777216 - (so_far l.merger).count.lines
