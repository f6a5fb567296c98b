-- The state of a builder, what each call changes in it, and replacements.
use Rattle.std.specs.Prelude.{List, [], ◌∷◌, ◌++◌, Option, Some, None, option_map, option_to_list, ℕ, nat_eq, fold}
use Rattle.std.specs.Prelude.{if◌then◌else◌}
use Rattle.cweb_store.specs.Parts.{PartKind, Token, Part, without_layout, at_close}
use Rattle.cweb_store.specs.Names.{Occurrence}

-- The closed parts and the open one.
pub record PartsSoFar : Type 0 where
  pub closed : List Part
  pub current : Option Part

-- A part with one more token.
abbrev pub part_with_token : Token → Part → Part
part_with_token t p = record p { tokens = p.tokens ++ t ∷ [] }

-- A byte and its replacement.
pub record Replacement : Type 0 where
  pub byte : ℕ
  pub text : List ℕ

-- The last replacement of a byte, if any.
abbrev pub replacement : List Replacement → ℕ → Option (List ℕ)
replacement rs byte = fold (λ text r. if nat_eq r.byte byte then Some r.text else text) None rs

-- The occurrences of names, parts and replacements so far. Occurrences, parts and tokens stay below `too_many` each.
pub record Contents : Type 0 where
  pub occurrences : List Occurrence
  pub parts : PartsSoFar
  pub replacements : List Replacement

-- The contents of a new builder.
abbrev pub empty : Contents
empty = record { occurrences = []; parts = record { closed = []; current = None }; replacements = [] }

-- One more occurrence of a name.
abbrev pub with_occurrence : Occurrence → Contents → Contents
with_occurrence o c = record c { occurrences = c.occurrences ++ o ∷ [] }

-- A new part is open.
abbrev pub with_open : PartKind → Contents → Contents
with_open kind c = record c { parts = record c.parts { current = Some (record { kind = kind; tokens = [] }) } }

-- One more token in the open part.
abbrev pub with_token : Token → Contents → Contents
with_token t c = record c { parts = record c.parts { current = option_map (part_with_token t) c.parts.current } }

-- The open part loses its trailing layout.
abbrev pub with_dropped : Contents → Contents
with_dropped c = record c { parts = record c.parts { current = option_map without_layout c.parts.current } }

-- The open part is closed.
abbrev pub with_closed : Contents → Contents
with_closed c =
    let closed = c.parts.closed ++ option_to_list (option_map at_close c.parts.current) in
    record c { parts = record { closed = closed; current = None } }

-- One more replacement.
abbrev pub with_replacement : Replacement → Contents → Contents
with_replacement r c = record c { replacements = c.replacements ++ r ∷ [] }

-- The contents of a store.
pub record Stored : Type 0 where
  pub occurrences : List Occurrence
  pub parts : List Part
  pub replacements : List Replacement

-- A store of occurrences, parts and replacements.
abbrev pub stored : List Occurrence → List Part → List Replacement → Stored
stored occurrences parts replacements = record { occurrences = occurrences; parts = parts; replacements = replacements }

-- The store of a builder's contents. An open part counts with its tokens so far.
abbrev pub finished : Contents → Stored
finished c = stored c.occurrences (c.parts.closed ++ option_to_list c.parts.current) c.replacements
