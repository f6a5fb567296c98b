use Rattle.std.proofs.Common.{arith}
use Rattle.cweb_scan.proofs.Furthers.{comment_turn}
use Rattle.cweb_scan.proofs.scanner.Scanner.comment_len.Goals as goal

pub returns-in-Closed : goal.returns-in-Closed
returns-in-Closed c = grind (arith, comment_turn)
