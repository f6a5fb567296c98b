use Rattle.std.proofs.Common.{rules}
use Rattle.cweb_scan.proofs.scanner.Scanner.define.Goals as goal

pub returns-in_ok-emit-2 : goal.returns-in_ok-emit-2
returns-in_ok-emit-2 c = search rules
