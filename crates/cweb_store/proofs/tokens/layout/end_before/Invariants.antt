use Rattle.cweb_store.proofs.Common.{◌≡◌, ◌≤◌, ℕ, length, take, without_last_after, is_trailing}
use Rattle.cweb_store.proofs.tokens.layout.end_before.Given as goal

abbrev pub invariant-loop-end : goal.invariant-loop-end
invariant-loop-end l = record {
  within : l.end ≤ length l.tokens.tokens;
  begins : (n : ℕ) → n ≤ l.from → n ≤ length l.tokens.tokens → n ≤ l.end;
  same : without_last_after l.from (is_trailing l.trailing) (take l.end l.tokens.tokens)
      ≡ without_last_after l.from (is_trailing l.trailing) l.tokens.tokens;
}

abbrev pub decreases-loop-end : goal.decreases-loop-end
decreases-loop-end l = l.end
