use Rattle.cweb_store.proofs.Common.{ℕ, List}
use Rattle.cweb_store.specs.inner.Known.{ArePositions, IsOccurrenceTable}
use Rattle.cweb_store.proofs.NumberLemmas.{AreNumbered}
use Rattle.cweb_store.proofs.occurrences.Occurrences.numbered.Given as goal

abbrev pub invariant-loop-occurrence : goal.invariant-loop-occurrence
invariant-loop-occurrence l = record {
  numbered : (strings : List (List ℕ)) → IsOccurrenceTable strings l.occurrence-items
      → AreNumbered strings l.occurrence-items l.occurrence-index l.names.keys l.all.items;
  positions : ArePositions l.names.keys l.positions.items;
}
