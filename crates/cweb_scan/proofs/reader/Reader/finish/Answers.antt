use Rattle.cweb_scan.proofs.Common.{arith}
use Rattle.cweb_scan.proofs.LineBegins.{source_ended-weight}
use Rattle.cweb_scan.proofs.reader.Reader.finish.Goals as goal

pub returns-clause-room : goal.returns-clause-room
returns-clause-room c = grind (arith, source_ended-weight)
