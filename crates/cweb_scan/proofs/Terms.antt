-- Definitions that only proofs cite: parts of a scan, and the size of a store.
use Rattle.std.specs.Prelude.{if◌then◌else◌, Option, Some, None, codes, ℕ, List, bytes_eq, ◌≤◌, ◌+◌, [], ◌∷◌, length}
use Rattle.cweb_rules.specs.declared.context.Context.{Context}
use Rattle.cweb_rules.specs.declared.context.Context.TheVariants.{Macro, CText, Definition}
use Rattle.cweb_scan.specs.State.{ScanState, end_part, emit, move_to, drop_definition, report}
use Rattle.cweb_files.specs.declared.place.Place.{Place}
use Rattle.cweb_store.specs.Parts.{Newline, Token, Punct, Word, Number, Literal, Verbatim, Part}
use Rattle.cweb_scan.specs.Effects.{line_end_token, stays_in_head}
use Rattle.cweb_rules.specs.Matches.{Kind}
use Rattle.cweb_rules.specs.declared.effect.Effect.{Effect}
use Rattle.cweb_rules.specs.declared.effect.Effect.TheVariants.{EmitAt}
use Rattle.cweb_rules.specs.declared.fault.ScanKind.TheVariants.{DoubleAtInString}
use Rattle.cweb_store.specs.Names.{Occurrence}
use Rattle.cweb_store.specs.Calls.{PartsSoFar, Contents, Replacement}
use Rattle.cweb_rules.specs.laws.Laws.{owed_tokens}

-- Another definition or a part ends a macro.
abbrev pub end_macro_in : Context → ScanState → ScanState
end_macro_in c s = elim c [ Macro ↦ end_part s | _ ↦ s ]

-- The state after a newline, by context.
abbrev pub line_end_in : Context → Place → ScanState → ScanState
line_end_in c next s =
    move_to next (elim c [ Macro ↦ emit Newline s | CText ↦ emit (line_end_token next s) s | _ ↦ s ])

-- Any other lexeme ends a head; TeX continues there.
abbrev pub enter_in : Context → Kind → ScanState → ScanState
enter_in c k s = elim c [ Definition begun ↦ if stays_in_head k then s else drop_definition begun s | _ ↦ s ]

-- The token of a control code: only `@@` stands for a token of its own.
abbrev pub code_token : Effect → Option Token
code_token effect = elim effect [ EmitAt ↦ Some (Punct (codes "@")) | _ ↦ None ]

-- The state after a unit of a literal. An `@` that isn't doubled is a fault.
abbrev pub unit_state : ScanState → List ℕ → ScanState
unit_state s u = if bytes_eq u (codes "@") then report DoubleAtInString s else s

-- The size of a store: its tokens, and the bytes of all its strings.
abbrev pub sum_over : {A : Type 0} → (A → ℕ) → List A → ℕ
sum_over f [] = 0
sum_over f (x ∷ xs) = f x + sum_over f xs

abbrev pub one : Token → ℕ
one t = 1

abbrev pub spelling_size : Token → ℕ
spelling_size (Word b) = length b
spelling_size (Number b) = length b
spelling_size (Literal b) = length b
spelling_size (Verbatim b) = length b
spelling_size (Punct b) = length b
spelling_size _ = 0

abbrev pub part_size : (Token → ℕ) → Part → ℕ
part_size f p = sum_over f p.tokens

abbrev pub open_size : (Token → ℕ) → Option Part → ℕ
open_size f None = 0
open_size f (Some p) = part_size f p

abbrev pub parts_size : (Token → ℕ) → PartsSoFar → ℕ
parts_size f v = sum_over (part_size f) v.closed + open_size f v.current

abbrev pub occurrence_size : Occurrence → ℕ
occurrence_size o = length o.text

abbrev pub replacement_size : Replacement → ℕ
replacement_size r = length r.text

-- The number of tokens.
abbrev pub token_number : Contents → ℕ
token_number c = parts_size one c.parts

-- The bytes of all strings, each counted as often as it occurs.
abbrev pub stored_bytes : Contents → ℕ
stored_bytes c = parts_size spelling_size c.parts +
    (sum_over occurrence_size c.occurrences + sum_over replacement_size c.replacements)

-- A step adds at most so many tokens (emitted or owed) and so many bytes of strings.
pub record AddsAtMost (tokens bytes : ℕ) (old new : ScanState) : Type 0 where
  pub tokens_are : token_number new.contents + owed_tokens new.context ≤ token_number old.contents + owed_tokens
      old.context + tokens
  pub bytes_are : stored_bytes new.contents ≤ stored_bytes old.contents + bytes
