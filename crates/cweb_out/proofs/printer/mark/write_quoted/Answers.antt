use Rattle.std.proofs.Common.{arith}
use Rattle.cweb_files.proofs.Appending.{wrote_same}
use Rattle.cweb_out.proofs.Bytes.{plain_name}
use Rattle.cweb_out.proofs.printer.mark.write_quoted.Goals as goal

pub returns-else-has_quotable : goal.returns-else-has_quotable
returns-else-has_quotable g c = grind (arith, wrote_same, plain_name)
