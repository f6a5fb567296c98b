use Rattle.std.proofs.Common.{rules}
use Rattle.cweb_scan.proofs.scanner.Scanner.scanned.Goals as goal

pub returns : goal.returns
returns c = search rules
