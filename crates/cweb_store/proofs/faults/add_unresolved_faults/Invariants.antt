use Rattle.cweb_store.proofs.Common.{◌≡◌, ◌++◌, drop, unresolved_faults}
use Rattle.cweb_store.proofs.faults.add_unresolved_faults.Given as goal
use Rattle.cweb_store.proofs.FaultLemmas.{unresolved_faults_from}

abbrev pub invariant-loop-i : goal.invariant-loop-i
invariant-loop-i l = l.faults.items
    ++ unresolved_faults_from l.i (drop l.i l.resolutions) ≡ l.initial.faults.items ++ unresolved_faults l.resolutions
