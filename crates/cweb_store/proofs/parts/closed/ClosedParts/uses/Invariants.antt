use Rattle.cweb_store.proofs.Common.{◌≡◌, ◌||◌, length, drop, map, closed_in, flag_of, is_used, NameId}
use Rattle.cweb_store.proofs.parts.closed.ClosedParts.uses.Given as goal

abbrev pub invariant-loop-range : goal.invariant-loop-range
invariant-loop-range l = record {
  size : length l.used.items ≡ l.names;
  same : (n : NameId) → (flag_of l.used.items n
      || is_used l.resolutions (map (closed_in l.self-inside.tokens) (drop l.range-index l.range-items)) n)
      ≡ is_used l.resolutions (map (closed_in l.self-inside.tokens) l.range-items) n;
}
