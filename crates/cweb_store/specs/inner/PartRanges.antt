-- Parts as ranges of one list of tokens, and how calls change the open one.
use Rattle.std.specs.Prelude.{◌≡◌, ℕ, ◌+◌, ◌≤◌, ◌<◌, List, [], ◌∷◌, Option, Some, None, map, length, drop, slice_range}
use Rattle.std.specs.Prelude.{option_map, option_to_list, IsSome, ◌++◌, Bool, true, false, filter, take}
use Rattle.cweb_store.specs.declared.parts.PartRange.{PartRange}
use Rattle.cweb_store.specs.declared.parts.Open.{Open}
use Rattle.cweb_store.specs.Parts.{Token, Part, without_layout, at_close, is_layout, is_newline, PartKind}
use Rattle.cweb_store.specs.Calls.{PartsSoFar, part_with_token}
use Rattle.cweb_store.specs.surface.Tokens.{too_many, token_strings}
use Rattle.cweb_store.specs.declared.tokens.layout.Trailing.{Trailing}
use Rattle.cweb_store.specs.declared.tokens.layout.Trailing.TheVariants as trailing

abbrev pub closed_in : List Token → PartRange → Part
closed_in ts r = record { kind = r.kind; tokens = slice_range ts r.part.first r.part.after }

abbrev pub open_in : List Token → Open → Part
open_in ts o = record { kind = o.kind; tokens = drop o.first ts }

abbrev pub parts_in : List Token → List PartRange → Option Open → PartsSoFar
parts_in ts ranges current = record { closed = map (closed_in ts) ranges; current = option_map (open_in ts) current }

-- The end of the closed parts' tokens.
abbrev pub closed_end : List Token → Option Open → ℕ
closed_end ts None = length ts
closed_end ts (Some o) = o.first

-- From n to `end`, each range begins at the end of the previous one.
abbrev pub RangesFollow : ℕ → List PartRange → ℕ → Type 0
RangesFollow n [] end = n ≡ end
RangesFollow n (r ∷ rs) end = (r.part.first ≡ n) × (n ≤ r.part.after) × RangesFollow r.part.after rs end

-- The closed parts are contiguous up to the open one. While a part is open, room for its range is reserved.
pub record ArePartRanges (ts : List Token) (ranges : List PartRange) (current : Option Open) (places : ℕ) : Type 0 where
  pub follow : RangesFollow 0 ranges (closed_end ts current)
  pub within : closed_end ts current ≤ length ts
  pub room : IsSome current → length ranges < places
  pub few_tokens : length ts < too_many
  pub few_parts : length ranges + length (option_to_list current) < too_many

-- Contiguous closed parts cover all tokens.
pub record IsWhole (ts : List Token) (ranges : List PartRange) : Type 0 where
  pub follow : RangesFollow 0 ranges (length ts)
  pub few_tokens : length ts < too_many
  pub few_parts : length ranges < too_many

-- The ranges of parts if the first token has index n.
abbrev pub ranges_from : ℕ → List Part → List PartRange
ranges_from n [] = []
ranges_from n (p ∷ ps) =
    let after = n + length p.tokens in
    record { kind = p.kind; part = record { first = n; after = after } } ∷ ranges_from after ps

-- The range of the open part if it ends at `after`.
abbrev pub last_range : Open → ℕ → PartRange
last_range o after = record { kind = o.kind; part = record { first = o.first; after = after } }

-- A new part is open.
abbrev pub with_opened_part : PartKind → PartsSoFar → PartsSoFar
with_opened_part kind v = record v { current = Some (record { kind = kind; tokens = [] }) }

-- The open part with one more token.
abbrev pub with_pushed_token : Token → PartsSoFar → PartsSoFar
with_pushed_token t v = record v { current = option_map (part_with_token t) v.current }

-- The open part without its trailing layout.
abbrev pub with_dropped_layout : PartsSoFar → PartsSoFar
with_dropped_layout v = record v { current = option_map without_layout v.current }

-- The open part is closed.
abbrev pub with_closed_part : PartsSoFar → PartsSoFar
with_closed_part v = record { closed = v.closed ++ option_to_list (option_map at_close v.current); current = None }

-- A token that has a string.
abbrev pub has_string : Token → Bool
has_string token = elim (token_strings token) [ [] ↦ false | string ∷ strings ↦ true ]

abbrev pub is_trailing : Trailing → Token → Bool
is_trailing trailing.Layout token = is_layout token
is_trailing trailing.Newlines token = is_newline token

-- The tokens after the cut have no string, and none of them is before `first`.
pub record CutsLayout (tokens : List Token) (first after : ℕ) : Type 0 where
  pub strings : filter has_string (take after tokens) ≡ filter has_string tokens
  pub begins : first ≤ after
  pub within : after ≤ length tokens
