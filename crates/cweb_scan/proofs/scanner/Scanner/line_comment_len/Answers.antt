use Rattle.std.proofs.Common.{arith}
use Rattle.cweb_scan.proofs.Furthers.{line_comment_turn}
use Rattle.cweb_scan.proofs.scanner.Scanner.line_comment_len.Goals as goal

pub returns-in-Open : goal.returns-in-Open
returns-in-Open c = grind (arith, line_comment_turn)
