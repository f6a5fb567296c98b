use Rattle.cweb_scan.proofs.Common.{length, reach, Open}
use Rattle.cweb_rules.specs.inner.LineItems.{look_of}
use Rattle.cweb_scan.proofs.QuotedItems.{PassesRest}
use Rattle.cweb_scan.proofs.scanner.Scanner.pass_each_unit.Given as goal

abbrev pub invariant-units : goal.invariant-units
invariant-units l = PassesRest (reach (look_of l.item) Open l.inner).units (reach (look_of l.item) Open l.rest).units
    l.places l.left l.fn.self l.self

abbrev pub decreases-units : goal.decreases-units
decreases-units l = length l.rest
