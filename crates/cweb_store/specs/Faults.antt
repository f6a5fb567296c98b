-- The faults of names and their order.
use Rattle.std.specs.Prelude.{ℕ, Bool, false, not, ◌&&◌, ◌||◌, List, ◌++◌, Option, Some, None, Ok, Err, map, filter}
use Rattle.std.specs.Prelude.{filter_map}
use Rattle.std.specs.List.{list_any, enumerate_from}
use Rattle.cweb_store.specs.Names.{NameId, Occurrence, Resolution, id, is_id, names, resolutions, resolved_at, files}
use Rattle.cweb_store.specs.Names.{is_prefix_of_another, PrefixOfAnother, NotPresent}
use Rattle.cweb_store.specs.declared.name.NameKind.{NameKind}
use Rattle.cweb_store.specs.declared.name.NameFault.{NameFault}
use Rattle.cweb_store.specs.Names as spec
use Rattle.cweb_store.specs.Parts.{Token, Name, Part, joined_where, is_c_part, is_some_id, is_of}

-- A fault of a name, reported at an occurrence.
abbrev pub fault_of_name : NameKind → ℕ → NameFault
fault_of_name kind i = record { kind = kind; occurrence = record { 0 = i } }

-- The fault of occurrence i, if it resolves to no name.
abbrev pub unresolved_fault : ℕ → Resolution → Option NameFault
unresolved_fault i (Ok n) = None
unresolved_fault i (Err kind) = Some (fault_of_name kind i)

-- The faults of unresolved occurrences, in order.
abbrev pub unresolved_faults : List Resolution → List NameFault
unresolved_faults rs = filter_map (λ (p : ℕ × Resolution). unresolved_fault p.0 p.1) (enumerate_from 0 rs)

-- A fault for each name of a list that fails, at its first full occurrence.
abbrev pub faults_where : NameKind → (NameId → List ℕ → Bool) → List spec.Name → List NameFault
faults_where kind fails names =
    map (λ (p : ℕ × spec.Name). fault_of_name kind p.1.first)
    (filter (λ (p : ℕ × spec.Name). fails (id p.0) p.1.text) (enumerate_from 0 names))

-- A token uses a name.
abbrev pub is_use : List Resolution → NameId → Token → Bool
is_use rs n (Name name) = is_some_id n (resolved_at rs name.0)
is_use rs n token = false

-- A part of C text uses a name. The part counts even if its own name is unresolved.
abbrev pub is_used : List Resolution → List Part → NameId → Bool
is_used rs parts n = list_any (is_use rs n) (joined_where is_c_part parts)

-- A part belongs to a name.
abbrev pub has_part : List Resolution → List Part → NameId → Bool
has_part rs parts n = list_any (λ p. is_of rs n p.kind) parts

-- A name that is used, or is a file's, has no part.
abbrev pub is_missing : List Occurrence → List Part → NameId → Bool
is_missing os parts n =
    let rs = resolutions os in
    (is_used rs parts n || list_any (is_id n) (files os)) && not (has_part rs parts n)

-- All faults: unresolved occurrences, then names that are proper prefixes of others, then names without a part.
abbrev pub faults : List Occurrence → List Part → List NameFault
faults os parts = unresolved_faults (resolutions os)
    ++ faults_where PrefixOfAnother (λ n text. is_prefix_of_another (names os) text) (names os)
    ++ faults_where NotPresent (λ n text. is_missing os parts n) (names os)
