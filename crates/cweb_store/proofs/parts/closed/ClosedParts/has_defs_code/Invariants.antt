use Rattle.cweb_store.proofs.Common.{◌≡◌, drop, map, has_defs_code, closed_in}
use Rattle.cweb_store.proofs.parts.closed.ClosedParts.has_defs_code.Given as goal

abbrev pub invariant-loop-range : goal.invariant-loop-range
invariant-loop-range l = has_defs_code (map (closed_in l.self-inside.tokens) (drop l.range-index l.range-items))
    ≡ has_defs_code (map (closed_in l.self-inside.tokens) l.range-items)
