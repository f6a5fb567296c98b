use Rattle.std.proofs.Common.{rules}
use Rattle.std.proofs.Common.{arith}
use Rattle.cweb_files.proofs.Appending.{wrote_same, wrote_then, wrote_until}
use Rattle.cweb_out.proofs.printer.Printer.write_placed.Goals as goal

pub returns-in_err-put-in-Defs : goal.returns-in_err-put-in-Defs
returns-in_err-put-in-Defs g c = grind (arith, wrote_until)

pub returns-in_ok-put-in-Defs : goal.returns-in_ok-put-in-Defs
returns-in_ok-put-in-Defs g c = grind (arith, wrote_same, wrote_then)

pub returns-in-Mark : goal.returns-in-Mark
returns-in-Mark g c = search rules
