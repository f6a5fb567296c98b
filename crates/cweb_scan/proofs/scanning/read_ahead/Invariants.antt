use Rattle.cweb_scan.proofs.Common.{ℕ, ◌-◌, List, ReadsAhead}
use Rattle.cweb_scan.proofs.scanning.read_ahead.Given as goal

abbrev pub invariant-lines : goal.invariant-lines
invariant-lines g l = (lines : List (List ℕ)) × ReadsAhead l.merger.run lines l.ahead l.fn.reader l.reader

abbrev pub decreases-lines : goal.decreases-lines
decreases-lines g l = 16777216 - l.ahead.stretch.lines
