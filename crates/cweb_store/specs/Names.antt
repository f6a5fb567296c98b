-- Occurrences of names, the names that they resolve to, and how section names are spelled.
use Rattle.std.specs.Prelude.{ℕ, ◌+◌, Bool, not, ◌&&◌, nat_eq, List, [], ◌∷◌, ◌++◌, Option, Some, None, Result, Ok, Err}
use Rattle.std.specs.Prelude.{map, slice_get, bytes_eq, if◌then◌else◌, true, false, nat_lt, length, codes}
use Rattle.std.specs.Prelude.{filter, fold, option_to_list}
use Rattle.std.specs.List.{starts_with, list_any, position_or_len, ends_with, enumerate_from}
use Rattle.cweb_store.specs.declared.name.How.{How}
pub use Rattle.cweb_store.specs.declared.name.How.TheVariants.{Full, Prefix}
pub use Rattle.cweb_store.specs.declared.name.NameId.{NameId}
use Rattle.cweb_store.specs.declared.name.NameKind.{NameKind}
pub use Rattle.cweb_store.specs.declared.name.NameKind.TheVariants.{Ambiguous, NeverFull, PrefixOfAnother, NotPresent}
use Rattle.cweb_rules.specs.Bytes.{is_white}

-- An occurrence: its spelling, or the prefix of an abbreviation, and whether it names a file.
pub record Occurrence : Type 0 where
  pub text : List ℕ
  pub how : How
  pub is_file : Bool

-- A name, and the number of the occurrence that first gave it in full.
pub record Name : Type 0 where
  pub text : List ℕ
  pub first : ℕ

-- The spellings of names.
abbrev pub spellings : List Name → List (List ℕ)
spellings names = map (λ n. n.text) names

-- The spelling is a proper prefix of a name.
abbrev pub is_prefix_of_another : List Name → List ℕ → Bool
is_prefix_of_another all text =
    list_any (λ other. starts_with nat_eq other text && not (bytes_eq other text)) (spellings all)

-- Appends a name that occurrence `i` gives in full, unless it is known.
abbrev pub with_full_name : ℕ → List Name → List ℕ → List Name
with_full_name i names text =
    if list_any (bytes_eq text) (spellings names) then names else names ++ (record { text = text; first = i }) ∷ []

-- Appends the name of occurrence `i`, if that is in full.
abbrev pub with_occurrence_name : ℕ → List Name → Occurrence → List Name
with_occurrence_name i names o = elim o.how [ Full ↦ with_full_name i names o.text | Prefix ↦ names ]

-- The distinct names that are given in full, in order of their first occurrence in full.
abbrev pub names : List Occurrence → List Name
names os = fold (λ names (o : ℕ × Occurrence). with_occurrence_name o.0 names o.1) [] (enumerate_from 0 os)

-- A name by its number.
abbrev pub id : ℕ → NameId
id n = record { 0 = n }

-- The names that begin with a prefix.
abbrev pub beginning : List ℕ → List Name → List NameId
beginning prefix names =
    map (λ (n : ℕ × Name). id n.0)
    (filter (λ (n : ℕ × Name). starts_with nat_eq n.1.text prefix) (enumerate_from 0 names))

-- What an occurrence resolves to: a name or a fault.
abbrev pub Resolution : Type 0
Resolution = Result NameId NameKind

-- One name is the result, and several are ambiguous. For no name the result is `otherwise`.
abbrev pub the_one : List NameId → Resolution → Resolution
the_one [] otherwise = otherwise
the_one (n ∷ []) otherwise = Ok n
the_one (n ∷ m ∷ ns) otherwise = Err Ambiguous

-- Resolves an occurrence by all names. An abbreviation looks first among those that were given before it.
abbrev pub resolved_among : List Name → List Name → Occurrence → Resolution
resolved_among before all o = elim o.how [
  | Full ↦ Ok (id (position_or_len (bytes_eq o.text) (spellings all)))
  | Prefix ↦ the_one (beginning o.text before) (the_one (beginning o.text all) (Err NeverFull))
]

-- Resolves the occurrences from number `i` on.
abbrev pub resolutions_from : ℕ → List Name → List Name → List Occurrence → List Resolution
resolutions_from i before all [] = []
resolutions_from i before all (o ∷ os) =
    resolved_among before all o ∷ resolutions_from (i + 1) (with_occurrence_name i before o) all os

-- What each occurrence resolves to.
abbrev pub resolutions : List Occurrence → List Resolution
resolutions os = resolutions_from 0 [] (names os) os

-- The name that occurrence `i` resolves to, if there is one.
abbrev pub resolved_at : List Resolution → ℕ → Option NameId
resolved_at rs i = elim (slice_get rs i) [ Some r ↦ elim r [ Ok n ↦ Some n | Err kind ↦ None ] | None ↦ None ]

-- Two names are the same.
abbrev pub is_id : NameId → NameId → Bool
is_id n m = nat_eq n.0 m.0

-- Appends a name, unless it is in the list.
abbrev pub with_id : List NameId → NameId → List NameId
with_id ns n = if list_any (is_id n) ns then ns else ns ++ n ∷ []

-- Appends the name that occurrence `i` resolves to, if that names a file.
abbrev pub with_file : List Resolution → List NameId → ℕ → Occurrence → List NameId
with_file rs files i o = if o.is_file then fold with_id files (option_to_list (resolved_at rs i)) else files

-- The names of files, in order of their first occurrence as a file.
abbrev pub files : List Occurrence → List NameId
files os = fold (λ files (o : ℕ × Occurrence). with_file (resolutions os) files o.0 o.1) [] (enumerate_from 0 os)

-- Replaces spans of white space by one space and trims. `gap` is the space that comes before the next other byte.
abbrev pub squeezed_after : Bool → List ℕ → List ℕ → List ℕ
squeezed_after begun gap [] = []
squeezed_after begun gap (b ∷ t) = elim (is_white b) [
  | true ↦ squeezed_after begun (if begun then codes " " else []) t
  | false ↦ gap ++ b ∷ squeezed_after true [] t
]

-- The spelling of a name.
abbrev pub squeezed : List ℕ → List ℕ
squeezed t = squeezed_after false [] t

-- An abbreviation is longer than three bytes and ends in `...`.
abbrev pub is_abbreviation : List ℕ → Bool
is_abbreviation text = nat_lt 3 (length text) && ends_with nat_eq text (codes "...")
