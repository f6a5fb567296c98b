-- Parts of the definitions of a scan, and the code's directive state.
use Rattle.std.specs.Prelude.{ℕ, Bool, List, [], ◌-◌, Option, Some, None, length, take, codes, if◌then◌else◌, true}
use Rattle.std.specs.Prelude.{false, ◌&&◌, not, bytes_eq, ◌≡◌, is_some}
use Rattle.std.specs.List.{list_all}
use Rattle.std.specs.Option.{option_map_or}
use Rattle.cweb_store.specs.Parts.{Token, Part, Punct, Newline, is_blank, Word, Blank, Mark, is_macro, is_layout}
use Rattle.cweb_store.specs.Parts.{without_last}
use Rattle.cweb_files.specs.declared.place.Place.{Place}
use Rattle.cweb_store.specs.Names.{Occurrence, is_abbreviation}
use Rattle.cweb_store.specs.declared.name.How.TheVariants.{Full, Prefix}
use Rattle.cweb_rules.specs.declared.context.Context.{Context}
use Rattle.cweb_rules.specs.declared.context.Context.TheVariants.{Definition, Macro, CText, Limbo, TeX}
use Rattle.cweb_store.specs.Calls.{finished}
use Rattle.cweb_scan.specs.Lexemes.{Scanned}
use Rattle.cweb_scan.specs.State.{ScanState, leave, is_c, is_bare_include, is_punct}
use Rattle.cweb_scan.specs.declared.directive.Last.{Last}
use Rattle.cweb_scan.specs.declared.directive.Stage.{Stage}
use Rattle.cweb_scan.specs.declared.directive.Stage.TheVariants.{Outside, Bare, Include, Further}
use Rattle.cweb_scan.specs.declared.directive.Directive.{Directive}
use Rattle.cweb_scan.specs.declared.directive.Last.TheVariants as last
use Rattle.cweb_scan.specs.State as spec

-- The directive has only Blanks.
abbrev pub is_bare : List Token → Bool
is_bare ts = list_all is_blank ts

-- The tokens of the open part.
abbrev pub tokens_of : Option Part → List Token
tokens_of part = option_map_or (λ (p : Part). p.tokens) part []

-- A full name.
abbrev pub full : Bool → List ℕ → Occurrence
full is_file text = record { text = text; how = Full; is_file = is_file }

-- The prefix of an abbreviation.
abbrev pub prefix : Bool → List ℕ → Occurrence
prefix is_file text = record { text = text; how = Prefix; is_file = is_file }

-- An abbreviation gives its prefix, and any other name its bytes.
abbrev pub as_occurrence : Bool → List ℕ → Occurrence
as_occurrence is_file text =
    if is_abbreviation text then prefix is_file (take (length text - 3) text) else full is_file text

-- The result at the end of the source.
abbrev pub scanned_of : ScanState → Scanned
scanned_of s = let t = leave s in
    record { store = finished t.contents; faults = t.faults; sections = t.sections; starred = t.starred }

-- The place of an empty web.
abbrev pub no_place : Place
no_place = record { file = record { 0 = 0 }; line = 0 }

-- What a directive depends on in the last token.
abbrev pub last_kind : Token → Last
last_kind (Punct b) = if bytes_eq b (codes "\\") then last.Backslash else last.Other
last_kind Blank = last.Blank
last_kind Newline = last.LineEnd
last_kind (Mark place) = last.LineEnd
last_kind t = last.Other

abbrev pub maybe_last_kind : Option Token → Last
maybe_last_kind token = option_map_or last_kind token last.Other

abbrev pub stage_of : Option (List Token) → Stage
stage_of None = Outside
stage_of (Some ts) = if is_bare ts then Bare else (if is_bare_include ts then Include else Further)

abbrev pub directive_model : spec.Directive → Directive
directive_model d = record { stage = stage_of d.tokens; last = maybe_last_kind d.last }

abbrev pub is_after_line_end : Last → Bool
is_after_line_end l = elim l [ last.LineEnd ↦ true | _ ↦ false ]

abbrev pub is_after_backslash : Last → Bool
is_after_backslash l = elim l [ last.Backslash ↦ true | _ ↦ false ]

abbrev pub continues_line : Last → Token → Bool
continues_line l t = elim t [ Newline ↦ is_after_backslash l | _ ↦ false ]

abbrev pub is_outside : Stage → Bool
is_outside g = elim g [ Outside ↦ true | _ ↦ false ]

abbrev pub is_bare_stage : Stage → Bool
is_bare_stage g = elim g [ Bare ↦ true | _ ↦ false ]

abbrev pub is_include_stage : Stage → Bool
is_include_stage g = elim g [ Include ↦ true | _ ↦ false ]

abbrev pub is_include_word : Token → Bool
is_include_word t = elim t [ Word b ↦ bytes_eq b (codes "include") | _ ↦ false ]

-- The stage of an open directive after one more token.
abbrev pub next_open_stage : Stage → Token → Stage
next_open_stage g t =
    if is_blank t then g else (if is_include_word t && is_bare_stage g then Include else Further)

abbrev pub next_stage : Directive → Token → Stage
next_stage d t =
    if is_outside d.stage then (if is_punct (codes "#") (Some t) && is_after_line_end d.last then Bare else Outside)
    else (if is_after_line_end (last_kind t) && not
    (continues_line d.last t) then Outside else next_open_stage d.stage t)

abbrev pub after_token : Directive → Token → Directive
after_token d t = record { stage = next_stage d t; last = last_kind t }

abbrev pub new_directive : Directive
new_directive = record { stage = Outside; last = last.Other }

-- The code's directive state after a part's tokens.
abbrev pub after_tokens : List Token → Directive
after_tokens ts = directive_model (spec.directive_of ts)

abbrev pub is_open_macro : Option Part → Bool
is_open_macro part = option_map_or (λ (p : Part). is_macro p.kind) part false

-- A macro and a C part are parts of the store.
abbrev pub in_open_part : Context → Bool
in_open_part c = elim c [ Macro ↦ true | CText ↦ true | _ ↦ false ]

-- A part is open exactly in a macro and in C text. In C text, `directive` is that of the part's tokens, and `solid`
-- that of the tokens without trailing layout.
pub record IsTied (directive solid : Directive) (context : Context) (part : Option Part) : Type 0 where
  pub part_is_open : is_some part ≡ in_open_part context
  pub is_no_macro : is_c context ≡ true → is_open_macro part ≡ false
  pub directive_is : is_c context ≡ true → directive ≡ after_tokens (tokens_of part)
  pub solid_is : is_c context ≡ true → solid ≡ after_tokens (without_last is_layout (tokens_of part))
