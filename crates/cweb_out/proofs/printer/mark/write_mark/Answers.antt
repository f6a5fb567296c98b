use Rattle.std.proofs.Common.{arith}
use Rattle.cweb_out.proofs.Common.{◌≡◌, ◌++◌, List, ℕ, codes, decimal, append_assoc, mark_line}
use Rattle.cweb_files.proofs.Appending.{wrote_then, wrote_until, wrote_same}
use Rattle.cweb_out.specs.inner.Edges.{file_name_end}
use Rattle.cweb_out.proofs.printer.mark.write_mark.Goals as goal

-- The mark as its two parts.
in_two : (begin name digits : List ℕ) (line : ℕ) → digits ≡ decimal line
    → begin ++ mark_line name line ≡ (begin ++ (codes "#line " ++ digits)) ++ file_name_end name
in_two begin name digits line is = grind (arith, append_assoc)

pub returns-in_err-write_three : goal.returns-in_err-write_three
returns-in_err-write_three g c = grind (arith, wrote_until, in_two)

pub returns : goal.returns
returns g c = grind (arith, wrote_same, in_two, wrote_then)
