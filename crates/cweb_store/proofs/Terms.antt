-- Definitions that only proofs cite.
use Rattle.std.specs.Prelude.{ℕ, List, fold, Option, option_to_list, map, filter, nat_eq}
use Rattle.std.specs.List.{enumerate_from, starts_with}
use Rattle.cweb_store.specs.Names.{Name, Occurrence, with_occurrence_name, with_id, id}
use Rattle.cweb_store.specs.declared.name.NameId.{NameId}

-- Appends the names of the occurrences from number `i` on.
abbrev pub names_from : ℕ → List Name → List Occurrence → List Name
names_from i names os =
    fold (λ names (o : ℕ × Occurrence). with_occurrence_name o.0 names o.1) names (enumerate_from i os)

-- Appends a name, if there is one.
abbrev pub with_some : List NameId → Option NameId → List NameId
with_some ns n = fold with_id ns (option_to_list n)

-- The names that begin with a prefix. The first name has number `i`.
abbrev pub beginning_from : ℕ → List ℕ → List Name → List NameId
beginning_from i prefix names =
    map (λ (n : ℕ × Name). id n.0)
    (filter (λ (n : ℕ × Name). starts_with nat_eq n.1.text prefix) (enumerate_from i names))
