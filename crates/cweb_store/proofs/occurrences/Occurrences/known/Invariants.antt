use Rattle.cweb_store.proofs.OccurrenceTableLemmas.{AreTaken}
use Rattle.cweb_store.proofs.occurrences.Occurrences.known.Given as goal

abbrev pub invariant-loop-i : goal.invariant-loop-i
invariant-loop-i l = AreTaken l.self l.i l.known l.all.items
