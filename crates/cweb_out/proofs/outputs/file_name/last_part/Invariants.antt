use Rattle.cweb_out.proofs.Common.{◌≡◌, ◌≤◌, ◌<◌, ◌-◌, ℕ, get_or, true, false, is_slash}
use Rattle.cweb_out.proofs.outputs.file_name.last_part.Given as goal

abbrev pub invariant-bytes : goal.invariant-bytes
invariant-bytes l = record {
  within : l.start ≤ l.i;
  after : (k : ℕ) → l.start ≤ k → k < l.i → is_slash (get_or l.name k 0) ≡ false;
  before : 0 < l.start → is_slash (get_or l.name (l.start - 1) 0) ≡ true;
}
