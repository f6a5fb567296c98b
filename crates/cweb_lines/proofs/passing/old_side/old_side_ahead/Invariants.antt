use Rattle.cweb_lines.proofs.Common.{◌-◌}
use Rattle.cweb_lines.specs.inner.PassingChanges.{IsPartOfOldSide}
use Rattle.cweb_lines.proofs.passing.old_side.old_side_ahead.Given as goal

abbrev pub invariant-lines : goal.invariant-lines
invariant-lines g l = record { part : IsPartOfOldSide l.web l.change l.first l.ahead }

abbrev pub decreases-lines : goal.decreases-lines
decreases-lines g l = 1048576 - l.ahead.side.all.lines
