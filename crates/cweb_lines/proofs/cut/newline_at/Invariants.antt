use Rattle.cweb_lines.proofs.Common.{◌≡◌, ◌++◌, ℕ, List, length, HasNoNewline}
use Rattle.cweb_lines.proofs.cut.newline_at.Given as goal

abbrev pub invariant-runs : goal.invariant-runs
invariant-runs l = (prefix : List ℕ) × (l.bytes ≡ prefix ++ l.rest) × HasNoNewline prefix

abbrev pub decreases-runs : goal.decreases-runs
decreases-runs l = length l.rest
