use Rattle.cweb_store.proofs.Common.{◌≡◌, ◌++◌, drop, PrefixOfAnother, faults_where, is_prefix_of_another}
use Rattle.cweb_store.proofs.faults.add_prefix_faults.Given as goal
use Rattle.cweb_store.proofs.FaultLemmas.{faults_from}

abbrev pub invariant-loop-number : goal.invariant-loop-number
invariant-loop-number l = l.faults.items
    ++ faults_from l.number PrefixOfAnother (λ n text. is_prefix_of_another l.names.names text)
    (drop l.number l.names.names)
    ≡ l.initial.faults.items ++ faults_where PrefixOfAnother (λ n text. is_prefix_of_another l.names.names text)
    l.names.names
