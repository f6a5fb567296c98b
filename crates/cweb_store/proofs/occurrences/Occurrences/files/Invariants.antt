use Rattle.cweb_store.proofs.Common.{◌≡◌, ℕ, List, [], drop, files_from, occurrences_at}
use Rattle.cweb_store.proofs.occurrences.Occurrences.files.Given as goal

abbrev pub invariant-loop-i : goal.invariant-loop-i
invariant-loop-i l = (strings : List (List ℕ))
    → files_from l.resolutions l.files.keys l.i (occurrences_at strings (drop l.i l.occurrence-items))
    ≡ files_from l.resolutions [] 0 (occurrences_at strings l.occurrence-items)
