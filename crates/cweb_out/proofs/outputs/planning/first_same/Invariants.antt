use Rattle.cweb_out.proofs.Common.{◌≡◌, None, take, find, bytes_eq, name_spelling}
use Rattle.cweb_store.specs.Names as spec
use Rattle.cweb_out.proofs.outputs.planning.first_same.Given as goal

abbrev pub invariant-files : goal.invariant-files
invariant-files l =
    find (λ n. bytes_eq (name_spelling l.store n) l.main) (take l.name-index (spec.files l.store.occurrences)) ≡ None
