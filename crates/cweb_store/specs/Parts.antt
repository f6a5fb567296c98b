-- Parts and their tokens, and the layout at the end of a part.
use Rattle.std.specs.Prelude.{ℕ, Bool, true, false, not, List, Option, filter, flat_map, [], ◌∷◌, ◌++◌, take, drop}
use Rattle.std.specs.Prelude.{if◌then◌else◌}
use Rattle.std.specs.List.{list_any}
use Rattle.std.specs.Option.{option_map_or}
pub use Rattle.cweb_files.specs.declared.place.Place.{Place}
pub use Rattle.cweb_store.specs.declared.name.NameRef.{NameRef}
use Rattle.cweb_store.specs.Names.{NameId, Resolution, resolved_at, is_id}
pub use Rattle.cweb_store.specs.declared.parts.PartKind.{PartKind}
use Rattle.cweb_store.specs.declared.parts.PartKind.TheVariants.{Unnamed, Named, Macro}

-- A token with its bytes.
pub data Token : Type 0 where
  Word Number Literal Verbatim Punct : (bytes : List ℕ) → Token
  Blank Newline Join Defs : Token
  Name : (name : NameRef) → Token
  Head Tail : (section : ℕ) → Token
  Mark : (place : Place) → Token

-- A part: what it belongs to, and its tokens.
pub record Part : Type 0 where
  pub kind : PartKind
  pub tokens : List Token

-- The optional name is this one.
abbrev pub is_some_id : NameId → Option NameId → Bool
is_some_id n name = option_map_or (is_id n) name false

-- The part belongs to the program.
abbrev pub is_unnamed : PartKind → Bool
is_unnamed kind = elim kind [ Unnamed ↦ true | Named name ↦ false | Macro ↦ false ]

-- The part is a macro definition.
abbrev pub is_macro : PartKind → Bool
is_macro kind = elim kind [ Unnamed ↦ false | Named name ↦ false | Macro ↦ true ]

-- Every part but a macro is C text.
abbrev pub is_c_part : PartKind → Bool
is_c_part kind = not (is_macro kind)

-- A part belongs to a name if the occurrence at its start resolves to it.
abbrev pub is_of : List Resolution → NameId → PartKind → Bool
is_of rs n kind = elim kind [ Unnamed ↦ false | Named name ↦ is_some_id n (resolved_at rs name.0) | Macro ↦ false ]

-- The tokens of parts, concatenated.
abbrev pub all_tokens : List Part → List Token
all_tokens parts = flat_map (λ p. p.tokens) parts

-- The parts that pass a test, concatenated in order of appearance.
abbrev pub joined_where : (PartKind → Bool) → List Part → List Token
joined_where test parts = all_tokens (filter (λ p. test p.kind) parts)

-- The token is a Defs.
abbrev pub is_defs : Token → Bool
is_defs token = elim token [ Defs ↦ true | _ ↦ false ]

-- A part of C text asks for the macro definitions (`@h`).
abbrev pub has_defs_code : List Part → Bool
has_defs_code parts = list_any is_defs (joined_where is_c_part parts)

-- Blanks, Newlines and Marks are layout.
abbrev pub is_layout : Token → Bool
is_layout token = elim token [ Blank ↦ true | Newline ↦ true | Mark place ↦ true | _ ↦ false ]

-- A section comment.
abbrev pub is_comment : Token → Bool
is_comment token = elim token [ Head section ↦ true | Tail section ↦ true | _ ↦ false ]

-- The token is a Blank.
abbrev pub is_blank : Token → Bool
is_blank token = elim token [ Blank ↦ true | _ ↦ false ]

-- The token is a Newline.
abbrev pub is_newline : Token → Bool
is_newline token = elim token [ Newline ↦ true | _ ↦ false ]

-- A token before a list without the trailing ones that pass a test.
abbrev pub before_last : (Token → Bool) → Token → List Token → List Token
before_last test t [] = if test t then [] else t ∷ []
before_last test t (u ∷ us) = t ∷ u ∷ us

-- The tokens without the trailing ones that pass a test.
abbrev pub without_last : (Token → Bool) → List Token → List Token
without_last test [] = []
without_last test (t ∷ ts) = before_last test t (without_last test ts)

-- The tokens without the trailing ones that pass a test, but at least the first n.
abbrev pub without_last_after : ℕ → (Token → Bool) → List Token → List Token
without_last_after n test ts = take n ts ++ without_last test (drop n ts)

-- The tokens without a trailing Blank.
abbrev pub without_blank : List Token → List Token
without_blank [] = []
without_blank (t ∷ []) = if is_blank t then [] else t ∷ []
without_blank (t ∷ u ∷ us) = t ∷ without_blank (u ∷ us)

-- A macro keeps its name and the token after it: `@d f(x)` and `@d f (x)` differ only in that token.
abbrev pub protected_count : PartKind → ℕ
protected_count kind = if is_macro kind then 2 else 0

-- A part without its trailing Blanks, Newlines and Marks.
abbrev pub without_layout : Part → Part
without_layout p = record p { tokens = without_last_after (protected_count p.kind) is_layout p.tokens }

-- A closed part. A macro loses its trailing Newlines, and then a trailing Blank.
abbrev pub at_close : Part → Part
at_close p = if is_macro p.kind then record p { tokens = without_blank (without_last is_newline p.tokens) } else p
