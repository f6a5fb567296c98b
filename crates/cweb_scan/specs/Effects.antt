-- The state after each lexeme.
use Rattle.std.specs.Prelude.{ℕ, Bool, true, false, ◌||◌, ◌&&◌, not, List, [], ◌∷◌, length, codes, if◌then◌else◌}
use Rattle.std.specs.Prelude.{bytes_eq, Option, Some, None}
use Rattle.std.specs.List.{fold}
use Rattle.std.specs.Fmt.{decimal}
use Rattle.cweb_store.specs.Parts.{Token, Word, Number, Literal, Verbatim, Punct, Blank, Newline, Join, Defs, Name}
use Rattle.cweb_store.specs.Parts.{Mark}
use Rattle.cweb_files.specs.declared.place.Place.{Place}
use Rattle.cweb_store.specs.declared.name.NameRef.{NameRef}
use Rattle.cweb_store.specs.declared.parts.PartKind.TheVariants as part
use Rattle.cweb_store.specs.Calls.{with_open, with_dropped, with_replacement}
use Rattle.cweb_rules.specs.declared.fault.ScanKind.TheVariants.{ReplacementTooLong, NameDidNotEnd, NamesDoNotNest}
use Rattle.cweb_rules.specs.declared.fault.ScanKind.TheVariants.{CommentDidNotEnd, StringDidNotEnd, DoubleAtInString}
use Rattle.cweb_rules.specs.declared.fault.ScanKind.TheVariants.{ControlTextDidNotEnd, FaultyConstant, MissingAt}
use Rattle.cweb_rules.specs.Bytes.{is_line_end}
use Rattle.cweb_rules.specs.Matches.{Kind, Lexeme}
use Rattle.cweb_rules.specs.declared.effect.Effect.{Effect}
use Rattle.cweb_rules.specs.declared.context.Context.{Context}
use Rattle.cweb_rules.specs.declared.context.Context.TheVariants.{TeX, Definition, Macro, CText}
use Rattle.cweb_rules.specs.declared.effect.Effect.TheVariants.{Define, Format, Program, InsertDefs, Joins, EmitAt}
use Rattle.cweb_rules.specs.declared.effect.Effect.TheVariants.{Faulty}
use Rattle.cweb_scan.specs.State.{is_next_line, in_directive, directive, name_occurrence, ScanState, emit, add_name}
use Rattle.cweb_scan.specs.State.{report_at, report, move_to, begin_part, end_macro, drop_definition, begin_section}
use Rattle.cweb_scan.specs.State.{is_punct, is_last_blank}
use Rattle.cweb_rules.specs.Items.{unescaped}
use Rattle.cweb_rules.specs.declared.end.End.{End}
use Rattle.cweb_rules.specs.declared.end.End.TheVariants.{Closed, Cut, Nested}
use Rattle.cweb_rules.specs.Matches as kind

-- The token of a newline in a C part, if the next line is at this place.
abbrev pub line_end_token : Place → ScanState → Token
line_end_token next s =
    if in_directive s && is_punct (codes "\\") (directive s).last then Newline
    else (if (in_directive s && s.folded) || not (is_next_line s.here next) then Mark next
    else Newline)

-- The state after a newline, by context.
abbrev pub line_end : Place → ScanState → ScanState
line_end next s =
    move_to next (elim s.context [ Macro ↦ emit Newline s | CText ↦ emit (line_end_token next s) s | _ ↦ s ])

-- A newline in a comment emits nothing in a directive.
abbrev pub comment_line_end : Place → ScanState → ScanState
comment_line_end next s = if in_directive s then move_to next s else line_end next s

-- In a directive, blanks and comments emit one Blank.
abbrev pub blank : ScanState → ScanState
blank s = if in_directive s && not (is_last_blank (directive s).last) then emit Blank s else s

-- A punctuator is a token. Outside directives it resets `folded`, since a `#` may begin one.
abbrev pub punctuator : List ℕ → ScanState → ScanState
punctuator bytes s = record (emit (Punct bytes) s) { folded = in_directive s && s.folded }

-- The state after a control code that begins no item.
abbrev pub apply_effect : Effect → ScanState → ScanState
apply_effect Define s = record (end_macro s) { context = Definition s.here }
apply_effect Format s = end_macro s
apply_effect Program s = begin_part part.Unnamed (end_macro s)
apply_effect InsertDefs s = emit (Mark s.here) (emit Defs s)
apply_effect Joins s = emit Join (record s { contents = with_dropped s.contents })
apply_effect EmitAt s = emit (Punct (codes "@")) s
apply_effect (Faulty k) s = report k s
apply_effect _ s = s

-- `@l` sets a transliteration, if it is well-formed.
abbrev pub set_letter : ℕ → Option (List ℕ) → ScanState → ScanState
set_letter byte None s = report ReplacementTooLong s
set_letter byte (Some text) s =
    record s { contents = with_replacement (record { byte = byte; text = text }) s.contents }

-- A control text emits nothing. It is a fault if it doesn't end.
abbrev pub pass_control_text : End → ScanState → ScanState
pass_control_text how s = elim how [ Cut ↦ report ControlTextDidNotEnd s | _ ↦ s ]

-- `@=` emits verbatim bytes, if it ends.
abbrev pub emit_verbatim : List ℕ → End → ScanState → ScanState
emit_verbatim text Closed s = emit (Verbatim text) s
emit_verbatim text Cut s = report ControlTextDidNotEnd s
emit_verbatim text _ s = s

-- `@'` emits a character code, if it is well-formed.
abbrev pub emit_constant : Option ℕ → ScanState → ScanState
emit_constant None s = report FaultyConstant s
emit_constant (Some n) s = emit (Number (decimal n)) s

-- The identifier after `@d` begins a macro. A Blank follows, unless `(` follows directly.
abbrev pub define : List ℕ → Bool → ScanState → ScanState
define bytes tight s =
    let t = emit (Word bytes) (record s { context = Macro; contents = with_open part.Macro s.contents }) in
    if tight then t else emit Blank t

-- A comment that doesn't end is a fault. `begun` is the place of an item's start, here and below.
abbrev pub pass_comment : End → Place → ScanState → ScanState
pass_comment how begun s = elim how [ Cut ↦ report_at CommentDidNotEnd begun s | _ ↦ s ]

-- A name that doesn't end at its closer is a fault.
abbrev pub report_name_fault : End → Place → ScanState → ScanState
report_name_fault Cut begun s = report_at NameDidNotEnd begun s
report_name_fault Nested begun s = report_at NamesDoNotNest begun s
report_name_fault _ begun s = s

-- In C text a name is a use, and a part opener is a fault.
abbrev pub use_name : NameRef → Bool → Place → ScanState → ScanState
use_name n opens begun s =
    let t = emit (Mark s.here) (emit (Name n) s) in
    if opens then report_at MissingAt begun t else t

-- In TeX a name with a part opener begins a part.
abbrev pub open_name : NameRef → Bool → ScanState → ScanState
open_name n opens s = if opens then begin_part (part.Named n) (end_macro s) else end_macro s

-- The state after a name, by context.
abbrev pub name_in_context : Context → NameRef → Bool → Place → ScanState → ScanState
name_in_context TeX n opens begun s = open_name n opens s
name_in_context Macro n opens begun s = open_name n opens s
name_in_context CText n opens begun s = use_name n opens begun s
name_in_context _ n opens begun s = s

-- The state after an occurrence of a name.
abbrev pub occurrence : Bool → List ℕ → End → Bool → Place → ScanState → ScanState
occurrence is_file text how opens begun s =
    let n : NameRef = record { 0 = length s.contents.occurrences } in
    name_in_context s.context n opens begun (report_name_fault how begun (add_name (name_occurrence is_file text) s))

-- A literal is a token. One that doesn't end is also a fault.
abbrev pub emit_literal : List ℕ → End → Place → ScanState → ScanState
emit_literal text Closed begun s = emit (Literal text) s
emit_literal text Cut begun s = report_at StringDidNotEnd begun (emit (Literal text) s)
emit_literal text _ begun s = s

-- The state, and the places of the remaining lines.
pub record Reading : Type 0 where
  pub state : ScanState
  pub later : List Place

-- Applies a step to the state.
abbrev pub on : (ScanState → ScanState) → Reading → Reading
on f r = record r { state = f r.state }

-- Applies a step with the place of the next line.
abbrev pub next_line : (Place → ScanState → ScanState) → Reading → Reading
next_line f r = elim r.later [ [] ↦ r | place ∷ later ↦ record { state = f place r.state; later = later } ]

-- Applies a step for each newline of some bytes.
abbrev pub each_line_end : (Place → ScanState → ScanState) → List ℕ → Reading → Reading
each_line_end f bytes r = fold (λ r b. if is_line_end b then next_line f r else r) r bytes

-- A unit of a literal. An `@` that isn't doubled is a fault on its line.
abbrev pub literal_unit : Reading → List ℕ → Reading
literal_unit r u = if bytes_eq u (codes "@") then on (report DoubleAtInString) r else each_line_end move_to u r

-- Lexemes that may precede the identifier of a definition.
abbrev pub stays_in_head : Kind → Bool
stays_in_head k = elim k
    [ kind.Blanks ↦ true | kind.LineEnd ↦ true | kind.Comment how ↦ true | kind.Defined tight ↦ true | _ ↦ false ]

-- The state in which a lexeme is read. A lexeme that may not be in a head ends it; TeX continues there.
abbrev pub enter : Kind → ScanState → ScanState
enter k s = elim s.context [ Definition begun ↦ if stays_in_head k then s else drop_definition begun s | _ ↦ s ]

-- The reading after a lexeme of a kind, by its bytes.
abbrev pub item : Kind → List ℕ → Reading → Reading
item kind.Skipped bytes r = each_line_end move_to bytes r
item (kind.Section starred) bytes r = on (begin_section starred) r
item (kind.Code effect) bytes r = on (apply_effect effect) r
item (kind.Letter byte text) bytes r = on (set_letter byte text) r
item (kind.ControlText how) bytes r = on (pass_control_text how) r
item (kind.Verbatim units how) bytes r = on (emit_verbatim (unescaped units) how) r
item (kind.Constant value) bytes r = on (emit_constant value) r
item (kind.Occurrence is_file units how opens) bytes r =
    on (occurrence is_file (unescaped units) how opens r.state.here) (each_line_end move_to bytes r)
item kind.Blanks bytes r = on blank r
item kind.LineEnd bytes r = next_line line_end r
item (kind.Comment how) bytes r = on (pass_comment how r.state.here) (each_line_end comment_line_end bytes (on blank r))
item (kind.Quoted units how) bytes r = on (emit_literal (unescaped units) how r.state.here) (fold literal_unit r units)
item (kind.Defined tight) bytes r = on (define bytes tight) r
item kind.Identifier bytes r = on (emit (Word bytes)) r
item kind.Numeral bytes r = on (emit (Number bytes)) r
item kind.Punctuator bytes r = on (punctuator bytes) r

-- The reading after a lexeme.
abbrev pub after_lexeme : Reading → Lexeme → Reading
after_lexeme r p = item p.kind p.bytes (on (enter p.kind) r)
