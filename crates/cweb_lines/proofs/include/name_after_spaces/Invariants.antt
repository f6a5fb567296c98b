use Rattle.cweb_lines.proofs.Common.{◌≡◌, drop, name_after_spaces}
use Rattle.cweb_lines.proofs.include.name_after_spaces.Given as goal

abbrev pub invariant-loop-i : goal.invariant-loop-i
invariant-loop-i l = name_after_spaces l.bytes ≡ name_after_spaces (drop l.i l.bytes)
