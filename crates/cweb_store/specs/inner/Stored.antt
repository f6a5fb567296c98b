-- The representation of a store: its answers, its links and its model.
use Rattle.std.specs.Prelude.{◌≡◌, ◌≤◌, ◌-◌, ◌+◌, ℕ, zero, suc, Bool, true, List, [], ◌∷◌, length, slice_index}
use Rattle.std.specs.Prelude.{if◌then◌else◌, nat_lt, map, filter, ◌<◌, false, ◌||◌, get_or, IfSome, ◌^◌, Option, Some}
use Rattle.std.specs.Prelude.{None, slice_get, nat_eq}
use Rattle.std.specs.List.{list_any}
use Rattle.cweb_store.specs.Names.{NameId, Resolution, resolved_at, Occurrence}
use Rattle.cweb_store.specs.declared.parts.Part.{Part as Range}
use Rattle.cweb_store.specs.Parts.{PartKind, is_of, is_unnamed, is_macro, Part, has_defs_code}
use Rattle.cweb_store.specs.declared.parts.PartRange.{PartRange}
use Rattle.cweb_store.specs.declared.parts.iter.Wanted.{Wanted}
use Rattle.cweb_store.specs.declared.parts.iter.Wanted.TheVariants.{Program, OfName, Macros}
use Rattle.cweb_store.specs.declared.parts.links.Heads.{Heads}
use Rattle.cweb_store.specs.declared.store.answers.Answers.{Answers}
use Rattle.cweb_store.specs.surface.Tokens.{too_many, replacement_of, part_count, token_count, AreInOneList, stored_strings}
use Rattle.cweb_store.specs.surface.Tokens.{interned_store_bytes}
use Rattle.cweb_store.specs.Calls.{Replacement, Contents, Stored}
use Rattle.cweb_store.specs.inner.PartRanges.{ranges_from}
use Rattle.cweb_store.specs.declared.replacements.Replaced.{Replaced}
use Rattle.cweb_store.specs.Names as spec
use Rattle.cweb_store.specs.Faults as wrong

-- Whether a part belongs to the wanted ones.
abbrev pub is_wanted : List Resolution → Wanted → PartKind → Bool
is_wanted rs Program kind = is_unnamed kind
is_wanted rs (OfName n) kind = is_of rs n kind
is_wanted rs Macros kind = is_macro kind

abbrev pub wanted_in : List Resolution → Wanted → List PartRange → List Range
wanted_in rs wanted ranges =
    map (λ (r : PartRange). r.part) (filter (λ (r : PartRange). is_wanted rs wanted r.kind) ranges)

-- The parts that an iterator visits after it skips n parts.
abbrev pub followed : List PartRange → List ℕ → ℕ → List Range
followed [] skips n = []
followed (r ∷ ranges) [] n = []
followed (r ∷ ranges) (skip ∷ skips) zero = r.part ∷ followed ranges skips skip
followed (r ∷ ranges) (skip ∷ skips) (suc n) = followed ranges skips n

-- The number of parts from the first wanted one to the last of all, or 0 if there is none.
abbrev pub head_of : Heads → Wanted → ℕ
head_of heads Program = heads.program
head_of heads Macros = heads.macros
head_of heads (OfName n) = slice_index heads.names.items n.0

-- A name has a part.
abbrev pub has_head : Heads → NameId → Bool
has_head heads n = nat_lt 0 (head_of heads (OfName n))

-- A part is prepended to `after` others, and becomes the first of its group.
pub record IsPut (rs : List Resolution) (kind : PartKind) (after : ℕ) (old : Heads) (skip : ℕ) (new : Heads)
    : Type 0 where
  pub skips : (w : Wanted) → is_wanted rs w kind ≡ true → skip ≡ after - head_of old w
  pub heads : (w : Wanted) → head_of new w ≡ (if is_wanted rs w kind then after + 1 else head_of old w)
  pub names : length new.names.items ≡ length old.names.items

-- An iterator from the first wanted part visits exactly the wanted ones.
pub record AreLinked (rs : List Resolution) (ranges : List PartRange) (skips : List ℕ) (heads : Heads) : Type 0 where
  pub within : (w : Wanted) → head_of heads w ≤ length ranges
  pub follow : (w : Wanted) → followed ranges skips (length ranges - head_of heads w) ≡ wanted_in rs w ranges
  pub some : (n : NameId) → has_head heads n ≡ list_any (λ (r : PartRange). is_of rs n r.kind) ranges

-- All resolved names are among the first n.
abbrev pub AreWithin : List Resolution → ℕ → Type 0
AreWithin rs n = (i : ℕ) → IfSome (resolved_at rs i) (λ id. id.0 < n)

abbrev pub flag_of : List Bool → NameId → Bool
flag_of flags n = get_or flags n.0 false

-- The flags of the names that pass a test are set. The others are unchanged.
pub record FlagsToo (test : NameId → Bool) (old new : List Bool) : Type 0 where
  pub flags : (n : NameId) → flag_of new n ≡ (flag_of old n || test n)
  pub size : length new ≡ length old

-- The model of a stored replacement.
abbrev pub replacement_in : Replaced → Replacement
replacement_in r = record { byte = r.byte; text = r.text.items }

-- What a store computes from its occurrences and parts.
pub record AreAnswers (os : List Occurrence) (ps : List Part) (all : Answers) : Type 0 where
  pub settled : all.resolutions.items ≡ spec.resolutions os
  pub forms : all.files.keys ≡ spec.files os
  pub found : all.faults.items ≡ wrong.faults os ps
  pub defs : all.has_defs_code ≡ has_defs_code ps
  pub first_places : all.firsts.items ≡ map (λ n. n.first) (spec.names os)
  pub few : length all.firsts.items < too_many
  pub small : length all.resolutions.items < 2 ^ 32
  pub linked : AreLinked all.resolutions.items (ranges_from 0 ps) all.links.skips.items all.links.heads

-- Replacements from their strings and bytes.
abbrev pub replacements_at : List (List ℕ) → List ℕ → List Replacement
replacements_at strings [] = []
replacements_at [] (b ∷ bs) = []
replacements_at (t ∷ ts) (b ∷ bs) = replacement_of b t ∷ replacements_at ts bs

-- The index of the last occurrence of a byte in a list whose first entry has index i.
abbrev pub last_from : ℕ → Option ℕ → ℕ → List ℕ → Option ℕ
last_from byte found i [] = found
last_from byte found i (b ∷ bs) = last_from byte (if nat_eq b byte then Some i else found) (i + 1) bs

-- A table of the last occurrence of each byte in a list.
abbrev pub AreLast : List (Option ℕ) → List ℕ → Type 0
AreLast places bytes = (byte : ℕ) → byte < 256 → slice_get places byte ≡ Some (last_from byte None 0 bytes)

-- Each replaced byte has a string, and its last place is known.
pub record IsReplacementTable (strings : List (List ℕ)) (bytes : List ℕ) (last_places : List (Option ℕ)) : Type 0 where
  pub count : length strings ≡ length bytes
  pub last : AreLast last_places bytes

-- The strings of a store are in one list of n bytes, in which equal ones count once.
pub record HoldsBytes (n : ℕ) (s : Stored) : Type 0 where
  pub strings : AreInOneList n (stored_strings s)
  pub once : n ≡ interned_store_bytes s

-- A store with its answers and the number of its bytes.
pub record IsStore (s : Stored) (all : Answers) (bytes : ℕ) : Type 0 where
  pub answers : AreAnswers s.occurrences s.parts all
  pub holds : HoldsBytes bytes s

-- At most n occurrences, parts and tokens each.
pub record HoldsAtMost (n : ℕ) (c : Contents) : Type 0 where
  pub occurrences : length c.occurrences ≤ n
  pub parts : part_count c.parts ≤ n
  pub tokens : token_count c.parts ≤ n
