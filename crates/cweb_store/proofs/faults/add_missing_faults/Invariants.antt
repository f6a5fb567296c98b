use Rattle.cweb_store.proofs.Common.{◌≡◌, ◌++◌, ◌&&◌, ◌||◌, not, List, Name, drop, list_any, map, NotPresent, is_id, flag_of, has_head, faults_where}
use Rattle.cweb_store.proofs.faults.add_missing_faults.Given as goal
use Rattle.cweb_store.proofs.FaultLemmas.{faults_from}

abbrev pub invariant-loop-number : goal.invariant-loop-number
invariant-loop-number l = (names : List Name) → l.firsts ≡ map (λ (n : Name). n.first) names →
    l.faults.items ++ faults_from l.number NotPresent (λ n text.
    (flag_of l.used n || list_any (is_id n) l.files.keys) && not (has_head l.heads n)) (drop l.number names)
    ≡ l.initial.faults.items
    ++ faults_where NotPresent (λ n text. (flag_of l.used n || list_any (is_id n) l.files.keys)
    && not (has_head l.heads n)) names
