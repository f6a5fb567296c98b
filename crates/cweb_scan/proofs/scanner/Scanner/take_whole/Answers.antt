use Rattle.cweb_scan.proofs.Common.{arith}
use Rattle.cweb_scan.proofs.PendingLiterals.{is_literal, is_raw}
use Rattle.cweb_scan.proofs.scanner.Scanner.take_whole.Goals as goal

pub take_literal-requires-clause-lines : goal.take_literal-requires-clause-lines
take_literal-requires-clause-lines c = grind (arith, is_literal)

pub take_raw-requires-clause-lines : goal.take_raw-requires-clause-lines
take_raw-requires-clause-lines c = grind (arith, is_raw)
