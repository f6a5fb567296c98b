use Rattle.cweb_rules.proofs.Common.{◌≡◌, ◌≤◌, ◌-◌, length, reach, look_in_literal, reached, Open}
use Rattle.cweb_rules.proofs.Ranges.{later_by}
use Rattle.cweb_rules.proofs.whole_literals.quoted_len.Given as goal

abbrev pub invariant-units : goal.invariant-units
invariant-units l = record {
  within : length l.rest ≤ length l.text;
  so_far : reached (reach (look_in_literal l.quote) Open l.text)
      ≡ later_by (length l.text - length l.rest) (reached (reach (look_in_literal l.quote) Open l.rest));
}

abbrev pub decreases-units : goal.decreases-units
decreases-units l = length l.rest
