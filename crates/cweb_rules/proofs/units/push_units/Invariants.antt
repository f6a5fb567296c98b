use Rattle.cweb_rules.proofs.Common.{◌≡◌, ◌++◌, length, reach, unescaped, look_of, Open}
use Rattle.cweb_rules.proofs.units.push_units.Given as goal

abbrev pub invariant-units : goal.invariant-units
invariant-units l = l.text.items ++ unescaped (reach (look_of l.item) Open l.rest).units
    ≡ l.fn.text.items ++ unescaped (reach (look_of l.item) Open l.line).units

abbrev pub decreases-units : goal.decreases-units
decreases-units l = length l.rest
