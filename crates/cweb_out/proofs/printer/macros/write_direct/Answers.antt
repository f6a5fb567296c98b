use Rattle.std.proofs.Common.{arith}
use Rattle.cweb_files.proofs.Appending.{wrote_same, wrote_then, wrote_until}
use Rattle.cweb_out.proofs.printer.macros.write_direct.Goals as goal

pub returns-in_err-write_blank : goal.returns-in_err-write_blank
returns-in_err-write_blank g c = grind (arith, wrote_until)

pub returns : goal.returns
returns g c = grind (arith, wrote_same, wrote_then)
