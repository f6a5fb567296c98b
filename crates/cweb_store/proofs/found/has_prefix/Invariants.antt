use Rattle.cweb_store.proofs.Common.{◌≡◌, ◌∷◌, length, keys, any_next}
use Rattle.cweb_store.proofs.found.has_prefix.Given as goal

abbrev pub invariant-strings : goal.invariant-strings
invariant-strings l = any_next (l.before ∷ l.strings) ≡ any_next (keys l.sorted)

abbrev pub decreases-strings : goal.decreases-strings
decreases-strings l = length l.strings
