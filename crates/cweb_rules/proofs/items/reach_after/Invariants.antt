use Rattle.cweb_rules.proofs.Common.{◌≡◌, ◌+◌, length, reach, look_of, reached, Open}
use Rattle.cweb_rules.proofs.Ranges.{later_by}
use Rattle.cweb_rules.proofs.items.reach_after.Given as goal

abbrev pub invariant-units : goal.invariant-units
invariant-units l = record {
  within : l.size + length l.rest ≡ length l.text;
  so_far : reached (reach (look_of l.item) Open l.text)
      ≡ later_by l.size (reached (reach (look_of l.item) Open l.rest));
}

abbrev pub decreases-units : goal.decreases-units
decreases-units l = length l.rest
