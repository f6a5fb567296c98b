use Rattle.cweb_scan.proofs.Common.{length}
use Rattle.cweb_scan.proofs.LineSteps.{TakesFirst}
use Rattle.cweb_scan.proofs.reader.Reader.take_bytes.Given as goal

abbrev pub invariant-turns : goal.invariant-turns
invariant-turns l = TakesFirst l.line l.rest l.fn.self l.self

abbrev pub decreases-turns : goal.decreases-turns
decreases-turns l = length l.rest
