use Rattle.cweb_lines.proofs.Common.{◌≡◌, ◌≤◌, length, take, trimmed}
use Rattle.cweb_lines.proofs.open_source.take.trimmed_length.Given as goal

abbrev pub invariant-blanks : goal.invariant-blanks
invariant-blanks l = record { within : l.end ≤ length l.line; trimmed : trimmed (take l.end l.line) ≡ trimmed l.line }

abbrev pub decreases-blanks : goal.decreases-blanks
decreases-blanks l = l.end
