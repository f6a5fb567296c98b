use Rattle.cweb_scan.proofs.Common.{arith}
use Rattle.cweb_scan.proofs.LineBegins.{begins_next}
use Rattle.cweb_scan.proofs.reader.Reader.begin_line.Goals as goal

pub returns : goal.returns
returns c = grind (arith, begins_next)
