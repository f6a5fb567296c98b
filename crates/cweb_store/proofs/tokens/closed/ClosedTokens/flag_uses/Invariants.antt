use Rattle.cweb_store.proofs.Common.{◌≡◌, ◌≤◌, ◌||◌, ℕ, drop, length, list_any, slice_range, is_name_use, is_use, flag_of, token_numbers, NameId}
use Rattle.cweb_store.proofs.tokens.closed.ClosedTokens.flag_uses.Given as goal

abbrev pub invariant-uses : goal.invariant-uses
invariant-uses l = record {
  at : ℕ;
  left : l.rest ≡ token_numbers is_name_use at (drop at l.self);
  within : at ≤ l.part.after;
  size : length l.used ≡ length l.fn.used;
  same : (n : NameId)
      → (flag_of l.used n || list_any (is_use l.resolutions n) (slice_range l.self at l.part.after))
      ≡ (flag_of l.fn.used n
      || list_any (is_use l.resolutions n) (slice_range l.self l.part.first l.part.after));
}

abbrev pub decreases-uses : goal.decreases-uses
decreases-uses l = length l.rest
