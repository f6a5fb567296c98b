-- The names so far, those that begin with a prefix, and what occurrences resolve to.
use Rattle.std.specs.Prelude.{◌≡◌, ℕ, Bool, true, false, List, [], ◌∷◌, ◌+◌, Option, Some, None, map, filter, nat_eq, slice_get}
use Rattle.std.specs.Prelude.{bytes_eq, ◌||◌, if◌then◌else◌, ◌<◌, length, Ok, Err, fold}
use Rattle.std.specs.List.{starts_with, AllByRecursion, list_any, position_or_len, enumerate_from}
use Rattle.std.specs.Map.{lookup}
use Rattle.std.specs.Ordering.{is_eq, nat_cmp}
use Rattle.std.specs.Cmp.Lexicographic.{slice_cmp}
use Rattle.std.specs.declared.cmp.Ordering.{Ordering}
use Rattle.cweb_store.specs.Names.{NameId, Name, id, spellings, beginning, Occurrence, Resolution}
use Rattle.cweb_store.specs.Names.{with_occurrence_name, with_file, Full, Prefix, Ambiguous, NeverFull}
use Rattle.cweb_store.specs.declared.found.Found.{Found}
use Rattle.cweb_store.specs.declared.found.Found.TheVariants.{Nothing, One, Several}
use Rattle.cweb_store.specs.laws.Laws.{Distinct}
use Rattle.cweb_store.specs.inner.StringLists.{string_at}
use Rattle.cweb_store.specs.declared.occurrences.OccurrenceRecord.{OccurrenceRecord}
use Rattle.cweb_store.specs.surface.Tokens.{occurrence_of, occurrence_text, too_many, distinct_strings}
use Rattle.cweb_store.specs.inner.StringTables.{StringTableModel, has_word}
use Rattle.indexmap.specs.IndexSet.{insert_key}

-- Whether these are no names, one or several.
abbrev pub found_of : List NameId → Found
found_of [] = Nothing
found_of (n ∷ []) = One n
found_of (n ∷ m ∷ ns) = Several

abbrev pub is_several : Found → Bool
is_several Nothing = false
is_several (One n) = false
is_several Several = true

abbrev pub NameEntry : Type 0
NameEntry = List ℕ × NameId

abbrev pub entry_has_prefix : List ℕ → NameEntry → Bool
entry_has_prefix prefix e = starts_with nat_eq e.0 prefix

abbrev pub ids_with_prefix : List ℕ → List NameEntry → List NameId
ids_with_prefix prefix es = map (λ e. e.1) (filter (entry_has_prefix prefix) es)

abbrev pub compare_bytes : List ℕ → List ℕ → Ordering
compare_bytes x y = slice_cmp nat_cmp x y

-- The next spelling begins with this one.
abbrev pub next_begins : List ℕ → List (List ℕ) → Bool
next_begins text [] = false
next_begins text (next ∷ spellings) = starts_with nat_eq next text

-- Some spelling begins with its predecessor.
abbrev pub any_next : List (List ℕ) → Bool
any_next [] = false
any_next (text ∷ spellings) = next_begins text spellings || any_next spellings

-- The number of the name with this spelling. The first name has number `i`.
abbrev pub id_of_spelling : ℕ → List ℕ → List Name → Option NameId
id_of_spelling i text [] = None
id_of_spelling i text (n ∷ ns) = if bytes_eq text n.text then Some (id i) else id_of_spelling (i + 1) text ns

-- The map finds the same names as the list: for each prefix and for each spelling.
pub record IsNameMap (es : List NameEntry) (names : List Name) : Type 0 where
  pub finds : (p : List ℕ) → found_of (ids_with_prefix p es) ≡ found_of (beginning p names)
  pub yields : (q : List ℕ) → lookup (λ (k : List ℕ). is_eq (slice_cmp nat_cmp q k)) es ≡ id_of_spelling 0 q names
  pub distinct : Distinct (spellings names)

-- The spellings of all occurrences, and the names that are given in full among those so far.
pub record NamesSoFar : Type 0 where
  pub strings : List (List ℕ)
  pub names : List Name

abbrev pub no_names : List (List ℕ) → NamesSoFar
no_names strings = record { strings = strings; names = [] }

-- The name that an occurrence first gives in full.
abbrev pub name_at : List (List ℕ) → ℕ → Name
name_at strings first = record { text = string_at strings first; first = first }

abbrev pub names_at : List (List ℕ) → List ℕ → List Name
names_at strings firsts = map (name_at strings) firsts

-- The names are those of the map. Each has an occurrence of its own.
pub record AreKnown (strings : List (List ℕ)) (firsts : List ℕ) (es : List NameEntry) : Type 0 where
  pub sorted : IsNameMap es (names_at strings firsts)
  pub within : AllByRecursion (λ (first : ℕ). first < length strings) firsts

-- The number of a full name among those before it and its own. An abbreviation is not resolved.
abbrev pub numbered : List Name → Occurrence → Resolution
numbered before o = elim o.how [
  | Full ↦ Ok (id (position_or_len (bytes_eq o.text) (spellings before)))
  | Prefix ↦ Err NeverFull
]

-- The same for occurrences from number `i` on.
abbrev pub numbered_from : ℕ → List Name → List Occurrence → List Resolution
numbered_from i before [] = []
numbered_from i before (o ∷ os) = numbered before o ∷ numbered_from (i + 1) (with_occurrence_name i before o) os

-- What an occurrence resolves to that fits these names.
abbrev pub by_found : Found → Resolution
by_found Nothing = Err NeverFull
by_found (One n) = Ok n
by_found Several = Err Ambiguous

-- What an occurrence resolves to among the names before it and its own.
abbrev pub early : List Name → Occurrence → Resolution
early before o = elim o.how [
  | Full ↦ Ok (id (position_or_len (bytes_eq o.text) (spellings before)))
  | Prefix ↦ by_found (found_of (beginning o.text before))
]

abbrev pub earlies_from : ℕ → List Name → List Occurrence → List Resolution
earlies_from i before [] = []
earlies_from i before (o ∷ os) = early before o ∷ earlies_from (i + 1) (with_occurrence_name i before o) os

-- Appends the names of files from occurrence `i` on.
abbrev pub files_from : List Resolution → List NameId → ℕ → List Occurrence → List NameId
files_from rs files i os =
    fold (λ files (o : ℕ × Occurrence). with_file rs files o.0 o.1) files (enumerate_from i os)

abbrev pub occurrence_at : List (List ℕ) → OccurrenceRecord → Occurrence
occurrence_at strings r = occurrence_of (string_at strings r.spelling) r.how r.is_file

abbrev pub occurrences_at : List (List ℕ) → List OccurrenceRecord → List Occurrence
occurrences_at strings records = map (occurrence_at strings) records

-- The strings are the spellings of the occurrences, each once.
pub record IsOccurrenceTable (strings : List (List ℕ)) (records : List OccurrenceRecord) : Type 0 where
  pub once : strings ≡ distinct_strings (map occurrence_text (occurrences_at strings records))
  pub within : AllByRecursion (λ (r : OccurrenceRecord). r.spelling < length strings) records
  pub few : length records < too_many

-- All strings of the table are spellings, and are interned.
pub record IsNameTable (kept : StringTableModel) (records : List OccurrenceRecord) : Type 0 where
  pub table : IsOccurrenceTable kept.strings records
  pub interned : (q : List ℕ) → has_word kept q ≡ list_any (bytes_eq q) kept.strings

-- The position of the spelling of a full name among these numbers, in order of first sight.
abbrev pub number_at : List ℕ → OccurrenceRecord → Resolution
number_at numbers r = elim r.how [
  | Full ↦ Ok (id (position_or_len (nat_eq r.spelling) numbers))
  | Prefix ↦ Err NeverFull
]

abbrev pub with_number : List ℕ → OccurrenceRecord → List ℕ
with_number numbers r = elim r.how [ Full ↦ insert_key nat_eq numbers r.spelling | Prefix ↦ numbers ]

-- A number is among these, and this is its position.
pub record IsPosition (numbers : List ℕ) (number : ℕ) (at : NameId) : Type 0 where
  pub among : list_any (nat_eq number) numbers ≡ true
  pub position : position_or_len (nat_eq number) numbers ≡ at.0

-- Each recorded position of a number is its own.
abbrev pub ArePositions : List ℕ → List (Option NameId) → Type 0
ArePositions numbers positions =
    (number : ℕ) (at : NameId) → slice_get positions number ≡ Some (Some at) → IsPosition numbers number at

-- The resolution among all names, if that among earlier names is that there is none.
abbrev pub resolve : List Name → List ℕ → Resolution → Resolution
resolve all text (Err NeverFull) = by_found (found_of (beginning text all))
resolve all text early = early

abbrev pub resolve_all : List Name → List (List ℕ) → List Resolution → List Resolution
resolve_all all [] rs = []
resolve_all all (t ∷ ts) [] = []
resolve_all all (t ∷ ts) (r ∷ rs) = resolve all t r ∷ resolve_all all ts rs
