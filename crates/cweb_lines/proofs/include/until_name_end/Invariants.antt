use Rattle.cweb_lines.proofs.Common.{◌≡◌, ◌++◌, take, drop, until_name_end}
use Rattle.cweb_lines.proofs.include.until_name_end.Given as goal

abbrev pub invariant-loop-i : goal.invariant-loop-i
invariant-loop-i l = until_name_end l.quoted l.bytes ≡ take l.i l.bytes ++ until_name_end l.quoted (drop l.i l.bytes)
