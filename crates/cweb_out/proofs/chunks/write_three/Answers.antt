use Rattle.std.proofs.Common.{arith}
use Rattle.cweb_files.proofs.Appending.{wrote_until}
use Rattle.cweb_out.proofs.AppendedParts.{second_until, three_then}
use Rattle.cweb_out.proofs.chunks.write_three.Goals as goal

pub returns-in_err-put : goal.returns-in_err-put
returns-in_err-put g c = grind (arith, wrote_until)

pub returns-in_err-put-2 : goal.returns-in_err-put-2
returns-in_err-put-2 g c = grind (arith, second_until)

pub returns : goal.returns
returns g c = grind (arith, three_then)
