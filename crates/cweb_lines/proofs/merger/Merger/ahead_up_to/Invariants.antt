use Rattle.cweb_lines.proofs.Common.{◌-◌, ◌<◌, ℕ, List, length, ComesNext, IsAhead, OnlyLastExceeds}
use Rattle.cweb_lines.proofs.merger.Merger.ahead_up_to.Given as goal

abbrev pub invariant-lines : goal.invariant-lines
invariant-lines g l = record {
  lines : (lines : List (List ℕ)) × ComesNext l.self.run l.ahead.stretch lines × OnlyLastExceeds l.room lines
      × (0 < length lines);
  is : IsAhead l.self.run l.ahead;
}

abbrev pub decreases-lines : goal.decreases-lines
decreases-lines g l = 16777216 - l.ahead.stretch.lines
