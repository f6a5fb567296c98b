use Rattle.cweb_rules.proofs.Common.{◌≡◌, length, look_in_literal}
use Rattle.cweb_rules.specs.inner.LineItems.{goes_on}
use Rattle.cweb_rules.proofs.units.continues.Given as goal

abbrev pub invariant-units : goal.invariant-units
invariant-units l = goes_on (look_in_literal l.quote) l.rest ≡ goes_on (look_in_literal l.quote) l.text

abbrev pub decreases-units : goal.decreases-units
decreases-units l = length l.rest
