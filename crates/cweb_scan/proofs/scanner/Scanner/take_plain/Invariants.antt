use Rattle.cweb_scan.proofs.Common.{length, IsPlainC}
use Rattle.cweb_scan.proofs.PlainLexemes.{TakesSome}
use Rattle.cweb_scan.proofs.scanner.Scanner.take_plain.Given as goal

abbrev pub invariant-pieces : goal.invariant-pieces
invariant-pieces l = TakesSome l.rest l.left l.fn.self l.self × IsPlainC l.self

abbrev pub decreases-pieces : goal.decreases-pieces
decreases-pieces l = length l.left
