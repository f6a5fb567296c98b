use Rattle.cweb_store.proofs.Common.{◌≡◌, ◌<◌, ℕ, None, drop, length, get_or, last_from}
use Rattle.cweb_store.proofs.replacements.last_places.Given as goal

abbrev pub invariant-loop-i : goal.invariant-loop-i
invariant-loop-i l = record {
  all : length l.places.items ≡ 256;
  last : (byte : ℕ) → byte < 256
      → last_from byte (get_or l.places.items byte None) l.i (drop l.i l.bytes) ≡ last_from byte None 0 l.bytes;
}
