use Rattle.cweb_rules.proofs.Common.{◌≡◌, ◌≤◌, ◌+◌, ◌*◌, ◌-◌, drop, fold, octal_value}
use Rattle.cweb_rules.proofs.constants.octal_value.Given as goal

abbrev pub invariant-loop-digit : goal.invariant-loop-digit
invariant-loop-digit l = record {
  so_far : octal_value l.digits ≡ fold (λ n b. n * 8 + (b - 48)) l.value (drop l.digit-index l.digits);
  none : l.digit-index ≤ 0 → l.value ≤ 0;
  one : l.digit-index ≤ 1 → l.value ≤ 207;
  two : l.digit-index ≤ 2 → l.value ≤ 1863;
  three : l.value ≤ 15111;
}
