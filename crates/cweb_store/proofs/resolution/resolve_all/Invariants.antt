use Rattle.cweb_store.proofs.OccurrenceTableLemmas.{AreResolved}
use Rattle.cweb_store.proofs.resolution.resolve_all.Given as goal

abbrev pub invariant-loop-i : goal.invariant-loop-i
invariant-loop-i l = AreResolved l.names.names l.names.strings l.initial.all.items l.i l.all.items
