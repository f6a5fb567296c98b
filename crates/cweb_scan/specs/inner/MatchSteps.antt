-- The first rule that applies, the state after its lexeme, and what is taken at once: lines ahead and plain C text.
use Rattle.std.specs.Prelude.{◌≡◌, ℕ, Bool, true, false, ◌||◌, not, List, [], ◌∷◌, ◌++◌, take, codes, ◌&&◌, drop, ◌≤◌}
use Rattle.std.specs.Prelude.{◌+◌, length, ◌<◌, ◌*◌, ◌==◌, Option, Some, None}
use Rattle.cweb_files.specs.declared.place.Place.{Place}
use Rattle.cweb_rules.specs.Bytes.{begins, at_line_end}
use Rattle.cweb_rules.specs.Codes.{in_limbo, in_tex, in_macro, in_c}
use Rattle.cweb_rules.specs.Matches.{RuleMatch, c_rule}
use Rattle.cweb_rules.specs.declared.context.Context.{Context}
use Rattle.cweb_rules.specs.declared.context.Context.TheVariants.{Limbo, TeX, Definition, Macro, CText}
use Rattle.cweb_rules.specs.declared.effect.Effect.{Effect}
use Rattle.cweb_rules.specs.declared.end.End.{End}
use Rattle.cweb_rules.specs.declared.end.End.TheVariants.{Closed, Cut, Nested, Open}
use Rattle.cweb_rules.specs.declared.rule.Rule.{Rule}
use Rattle.cweb_scan.specs.Effects.{item}
use Rattle.cweb_scan.specs.State.{is_c, ScanState, names_include, in_directive, is_punct}
use Rattle.cweb_scan.specs.inner.ScanParts.{in_open_part, scanned_of, last_kind}
use Rattle.cweb_rules.specs.declared.effect.Effect.TheVariants as effect
use Rattle.cweb_rules.specs.declared.rule.Rule.TheVariants as rule
use Rattle.cweb_files.specs.Shelves.{Observed, ShelfContents, ShelfModel}
use Rattle.cweb_lines.specs.Lines.{Line}
use Rattle.cweb_lines.specs.Events.{Event}
use Rattle.cweb_lines.specs.surface.MergeProgress.{SoFar, EmitsLines}
use Rattle.cweb_lines.specs.declared.merge_state.MergeState.{MergeState}
use Rattle.cweb_scan.specs.inner.ReaderModel.{ReaderModel, read_after, cost, Between, TakesPrefix, weight}
use Rattle.cweb_scan.specs.surface.Scan.{web_size, AreLinesBelow}
use Rattle.cweb_scan.specs.Lexemes.{Scanned, read_lines}
use Rattle.cweb_lines.specs.inner.Ahead.{IsAhead}
use Rattle.cweb_lines.specs.surface.OpenedFileNames.{opened_file_names}
use Rattle.cweb_lines.specs.inner.Passing.{ComesNext, lines_next, with_newlines, top_of}
use Rattle.cweb_lines.specs.declared.merger.ahead.Ahead.{Ahead}
use Rattle.cweb_store.specs.surface.Tokens.{too_many}
use Rattle.cweb_store.specs.Parts.{Token, is_layout}
use Rattle.cweb_scan.specs.declared.directive.Last.TheVariants as last

-- The result of a scan if no line follows.
abbrev pub scanned_after : ReaderModel → Scanned
scanned_after reader = scanned_of (read_after reader []).state

-- The reader has taken the merger's lines so far: more lines give what all lines together give.
pub record HasTaken {R : Type 0} (shelf : ShelfModel R) (old reported : SoFar)
    (all now : ShelfContents R → List Event) (reader : ReaderModel) : Type 0 where
  pub lines : List Line
  pub read_is : (more : List Line) → read_after reader more ≡ read_lines (lines ++ more)
  pub below : AreLinesBelow (length reported.names) lines
  pub few : web_size lines ≤ reported.count.bytes + reported.count.lines
  pub yields : Observed shelf (λ seen. EmitsLines lines old reported (all seen) (now seen))

-- The reader has read lines of the innermost file.
pub record ReadsLines {R : Type 0} (run : MergeState R) (lines : List (List ℕ)) (old new : ReaderModel) : Type 0 where
  pub read : (more : List Line) →
      read_after new more ≡ read_after old (lines_next (top_of run.stack) lines ++ more)
  pub below : AreLinesBelow (length (opened_file_names run.names)) (lines_next (top_of run.stack) lines)
  pub few : web_size (lines_next (top_of run.stack) lines) ≤ length (with_newlines lines) + length lines
  pub adds : cost new ≤ cost old + 3 * (length (with_newlines lines) + length lines)

-- They are all lines up to the last one that was looked at.
pub record ReadsAhead {R : Type 0} (run : MergeState R) (lines : List (List ℕ)) (ahead : Ahead)
    (old new : ReaderModel) : Type 0 where
  pub comes : ComesNext run ahead.stretch lines
  pub read : ReadsLines run lines old new
  pub some : 0 < length lines
  pub count : ahead.stretch.lines ≡ length lines
  pub is : IsAhead run ahead

-- In limbo and TeX every byte but `@` is skipped.
abbrev pub is_skipped : ℕ → Bool
is_skipped b = not (b == 64)

-- The number of bytes that were taken, if any.
abbrev pub taken_size : Option ℕ → ℕ
taken_size None = 0
taken_size (Some n) = n

-- C text without an open directive.
pub record IsPlainC (s : ScanState) : Type 0 where
  pub in_c : s.context ≡ CText
  pub outside : in_directive s ≡ false

-- C text without an open directive, with room for a token.
pub record HasPlainRoom (s : ScanState) : Type 0 where
  pub in_c : IsPlainC s
  pub room : weight s + 1 < too_many

-- A token that is neither layout nor `#` nor `\`.
pub record IsPlainToken (t : Token) : Type 0 where
  pub hash : is_punct (codes "#") (Some t) ≡ false
  pub last : last_kind t ≡ last.Other
  pub solid : is_layout t ≡ false

-- The first n bytes of the rest of a line were taken, and no item is open.
pub record TakesPlain (n : ℕ) (rest : List ℕ) (old new : ScanState) : Type 0 where
  pub taken : (begun : Bool)
      → TakesPrefix n rest (record { state = old; item = Between; begun = begun })
      (record { state = new; item = Between; begun = begun })

-- The first n bytes of the rest of a line were taken, and no directive is open after them.
pub record PassesPlain (n : ℕ) (rest : List ℕ) (old new : ScanState) : Type 0 where
  pub taken : TakesPlain n rest old new
  pub stays : IsPlainC new

-- The state after the next lexeme, if it ends in its line and no head is open.
abbrev pub after_match : RuleMatch → List ℕ → ScanState → ScanState
after_match f t s = (item f.kind (take f.size t) (record { state = s; later = [] })).state

-- A lexeme was taken, and the state is the one after it.
pub record Applies (f : RuleMatch) (t : List ℕ) (n : ℕ) (old new : ScanState) : Type 0 where
  pub size : n ≡ f.size
  pub state : new ≡ after_match f t old

-- A lexeme over some lines was taken. The lines after its newlines have these places.
pub record AppliesOver (f : RuleMatch) (t : List ℕ) (places : List Place) (n : ℕ) (old new : ScanState) : Type 0 where
  pub size : n ≡ f.size
  pub state : (later : List Place) → item f.kind (take f.size t) (record { state = old; later = places ++ later })
      ≡ record { state = new; later = later }

-- A step for each of these lines.
abbrev pub passed : (Place → ScanState → ScanState) → List Place → ScanState → ScanState
passed f [] s = s
passed f (place ∷ places) s = passed f places (f place s)

-- The effect of a code in a context.
abbrev pub effect_in : Context → ℕ → Effect
effect_in Limbo b = in_limbo b
effect_in TeX b = in_tex b
effect_in (Definition begun) b = in_tex b
effect_in Macro b = in_macro b
effect_in CText b = in_c b

-- No code emits a token outside parts, or begins a part in C text.
abbrev pub may_do : Context → Effect → Bool
may_do c effect.InsertDefs = in_open_part c
may_do c effect.Joins = in_open_part c
may_do c effect.EmitAt = in_open_part c
may_do c effect.Constant = in_open_part c
may_do c effect.Verbatim = in_open_part c
may_do c effect.Define = not (is_c c)
may_do c effect.Program = not (is_c c)
may_do c e = true

-- How an item ended: `at_end` if it ended at the line's end.
abbrev pub ended_as : End → End → End
ended_as at_end Closed = Closed
ended_as at_end Cut = Cut
ended_as at_end Nested = Nested
ended_as at_end Open = at_end

-- The rules of C text whose lexemes end in their line, except codes and sections.
abbrev pub ends_in_line : Rule → Bool
ends_in_line rule.Blanks = true
ends_in_line rule.LineComment = true
ends_in_line rule.IncludedName = true
ends_in_line rule.Number = true
ends_in_line rule.Identifier = true
ends_in_line rule.Punctuator = true
ends_in_line r = false

abbrev pub is_head : Context → Bool
is_head c = elim c [ Definition begun ↦ true | _ ↦ false ]

-- C text, a macro or a head.
abbrev pub reads_c : Context → Bool
reads_c c = elim c [ Limbo ↦ false | TeX ↦ false | _ ↦ true ]

-- Names occur outside limbo.
abbrev pub reads_names : Context → Bool
reads_names c = elim c [ Limbo ↦ false | _ ↦ true ]

-- A name begins with `@<`, that of a file with `@(`.
abbrev pub starts_name : List ℕ → Bool
starts_name t = begins (codes "@<") t || begins (codes "@(") t

-- The lexeme of a line comment has at least two bytes.
abbrev pub needs_two : Rule → Bool
needs_two r = elim r [ rule.LineComment ↦ true | _ ↦ false ]

-- The code of a name.
abbrev pub is_name_effect : Effect → Bool
is_name_effect e = elim e [ effect.Named ↦ true | _ ↦ false ]

-- A `\` at the end of a line emits nothing in a macro.
abbrev pub ends_macro_line : Context → List ℕ → Bool
ends_macro_line c t = elim c [ Macro ↦ begins (codes "\\") t && at_line_end (drop 1 t) | _ ↦ false ]

-- Only C text has included names.
abbrev pub rule_in : ScanState → List ℕ → Rule
rule_in s t = c_rule (is_c s.context && names_include s) t
