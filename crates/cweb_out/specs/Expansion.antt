-- The uses of names, their expansion, and the cycle that is reported where it does not end.
use Rattle.std.specs.Prelude.{ℕ, List, [], Option, length, flat_map, option_to_list, suc, zero, ◌∷◌, None, Some, Bool}
use Rattle.std.specs.Prelude.{false, not, find, true, ◌++◌, drop}
use Rattle.std.specs.List.{list_all, list_any, position_or_len}
use Rattle.std.specs.Option.{option_map_or}
use Rattle.cweb_store.specs.Names.{is_id}
use Rattle.cweb_store.specs.declared.name.NameId.{NameId}
use Rattle.cweb_store.specs.Parts.{Token, Name, is_unnamed, is_of}
use Rattle.cweb_store.specs.declared.name.NameRef.{NameRef}
use Rattle.cweb_store.specs.Names as spec
use Rattle.cweb_store.specs.Parts as parts
use Rattle.cweb_store.specs.Calls.{Stored}

-- The number of names.
abbrev pub names : Stored → ℕ
names w = length (spec.names w.occurrences)

-- The name that an occurrence resolves to, if any.
abbrev pub resolved_use : Stored → NameRef → Option NameId
resolved_use w name = spec.resolved_at (spec.resolutions w.occurrences) name.0

-- The program: the unnamed parts, concatenated in order of appearance.
abbrev pub program : Stored → List Token
program w = parts.joined_where is_unnamed w.parts

-- The list of a name: its parts, concatenated in order of appearance.
abbrev pub joined : Stored → NameId → List Token
joined w n = parts.joined_where (is_of (spec.resolutions w.occurrences) n) w.parts

-- The name that a token uses, if any. An unresolved occurrence uses none.
abbrev pub use_of : Stored → Token → List NameId
use_of w (Name name) = option_to_list (resolved_use w name)
use_of w token = []

-- The names that tokens use, in order.
abbrev pub uses : Stored → List Token → List NameId
uses w tokens = flat_map (use_of w) tokens

-- A use becomes the list of the name that it resolves to, or nothing if unresolved. Any other token stays.
abbrev pub put : Stored → (NameId → List Token) → Token → List Token
put w text (Name name) = option_map_or text (resolved_use w name) []
put w text token = token ∷ []

-- The list of a name, expanded to a depth. At depth 0 it is dropped.
abbrev pub expanded_name : Stored → ℕ → NameId → List Token
expanded_name w zero n = []
expanded_name w (suc k) n = flat_map (put w (expanded_name w k)) (joined w n)

-- A list of tokens, expanded to a depth. At depth 0 its uses are dropped.
abbrev pub expand : Stored → ℕ → List Token → List Token
expand w k tokens = flat_map (put w (expanded_name w k)) tokens

-- The rank is below k: each name that the list uses has a rank below k - 1.
abbrev pub ends_below : Stored → ℕ → NameId → Bool
ends_below w zero n = false
ends_below w (suc k) n = list_all (ends_below w k) (uses w (joined w n))

-- The name's expansion ends. Its rank is below the number of names, since all names on a path of uses differ then.
abbrev pub has_rank : Stored → NameId → Bool
has_rank w n = ends_below w (names w) n

-- Each name that a list uses has a rank.
abbrev pub list_ends : Stored → List Token → Bool
list_ends w tokens = list_all (has_rank w) (uses w tokens)

-- The first name without a rank that a list uses.
abbrev pub first_endless : Stored → List Token → Option NameId
first_endless w tokens = find (λ n. not (has_rank w n)) (uses w tokens)

-- The walk goes from each name to the first name without a rank that its list uses, at most k steps. It ends at the
-- first name that repeats; the cycle is the walk from the first visit of that name to the second.
abbrev pub walk : Stored → ℕ → List NameId → Option NameId → List NameId
walk w k seen None = []
walk w zero seen (Some n) = []
walk w (suc k) seen (Some n) = elim (list_any (is_id n) seen) [
  | true ↦ drop (position_or_len (is_id n) seen) seen ++ n ∷ []
  | false ↦ walk w k (seen ++ n ∷ []) (first_endless w (joined w n))
]

-- After one step more than there are names, a name has repeated.
abbrev pub cycle_from : Stored → Option NameId → List NameId
cycle_from w start = walk w (suc (names w)) [] start
