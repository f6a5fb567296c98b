use Rattle.cweb_store.proofs.Common.{◌≡◌, true, length}
use Rattle.cweb_store.specs.inner.Squeezing.{is_squeezed, is_squeezed_after}
use Rattle.cweb_store.proofs.spelling.is_squeezed.Given as goal

abbrev pub invariant-words : goal.invariant-words
invariant-words l = is_squeezed_after true l.rest ≡ is_squeezed l.text

abbrev pub decreases-words : goal.decreases-words
decreases-words l = length l.rest
