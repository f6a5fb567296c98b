-- The state of a scan: what it has made of the text so far, and the directive that is open.
use Rattle.std.specs.Prelude.{ℕ, ◌+◌, Bool, true, false, List, [], ◌∷◌, ◌++◌, if◌then◌else◌, ◌&&◌, ◌-◌, length, take}
use Rattle.std.specs.Prelude.{◌==◌, not, Option, Some, None, codes, bytes_eq}
use Rattle.std.specs.Option.{is_some, option_map_or}
use Rattle.cweb_files.specs.declared.place.Place.{Place}
use Rattle.cweb_store.specs.Parts.{Token, Head, Tail, Mark, Part, Word, Punct, Blank, Newline, is_blank}
use Rattle.cweb_store.specs.declared.parts.PartKind.{PartKind}
use Rattle.cweb_store.specs.Names.{Occurrence, squeezed, is_abbreviation}
use Rattle.cweb_store.specs.declared.name.How.TheVariants.{Full, Prefix}
use Rattle.cweb_store.specs.Calls.{Contents, empty, with_token, with_open, with_closed, with_occurrence}
use Rattle.cweb_rules.specs.declared.context.Context.{Context}
use Rattle.cweb_rules.specs.declared.context.Context.TheVariants.{Limbo, TeX, Definition, Macro, CText}
use Rattle.cweb_rules.specs.declared.fault.ScanFault.{ScanFault}
use Rattle.cweb_rules.specs.declared.fault.ScanKind.{ScanKind}
use Rattle.cweb_rules.specs.declared.fault.ScanKind.TheVariants.{DefinitionDropped}
use Rattle.std.specs.List.{fold, list_all}

-- The tokens after the `#` of the open directive, if any, and the last token of the part.
pub record Directive : Type 0 where
  pub tokens : Option (List Token)
  pub last : Option Token

-- The token is a Newline or a Mark.
abbrev pub ends_line : Option Token → Bool
ends_line None = false
ends_line (Some t) = elim t [ Newline ↦ true | Mark place ↦ true | _ ↦ false ]

-- The token is this punctuator.
abbrev pub is_punct : List ℕ → Option Token → Bool
is_punct bytes (Some (Punct b)) = bytes_eq b bytes
is_punct bytes _ = false

-- The token is a Blank.
abbrev pub is_last_blank : Option Token → Bool
is_last_blank last = option_map_or is_blank last false

-- A directive continues after a Newline right after a `\`, but not after a Mark.
abbrev pub is_line_continued : Option Token → Token → Bool
is_line_continued last Newline = is_punct (codes "\\") last
is_line_continued last t = false

-- A `#` right after a Newline or Mark begins a directive. A Mark ends it; so does a Newline that no `\` precedes.
abbrev pub directive_tokens : Option (List Token) → Option Token → Token → Option (List Token)
directive_tokens None last t = if is_punct (codes "#") (Some t) && ends_line last then Some [] else None
directive_tokens (Some ts) last t = if ends_line (Some t) && not (is_line_continued last t) then None else Some (t ∷ ts)

-- The directive after one more token.
abbrev pub directive_after : Directive → Token → Directive
directive_after d t = record { tokens = directive_tokens d.tokens d.last t; last = Some t }

-- The directive after the tokens of a part.
abbrev pub directive_of : List Token → Directive
directive_of ts = fold directive_after (record { tokens = None; last = None }) ts

-- The directive consists of `include` and Blanks. The last token is first.
abbrev pub is_bare_include : List Token → Bool
is_bare_include (Blank ∷ ts) = is_bare_include ts
is_bare_include (Word b ∷ ts) = bytes_eq b (codes "include") && list_all is_blank ts
is_bare_include _ = false

-- An `#include` is open.
abbrev pub some_include : Option (List Token) → Bool
some_include tokens = option_map_or is_bare_include tokens false

-- The result of the source so far, as far as the rest of the scan depends on it.
pub record ScanState : Type 0 where
  pub context : Context
  -- The contents of the store's builder.
  pub contents : Contents
  pub faults : List ScanFault
  pub sections : ℕ
  pub starred : List ℕ
  -- The current line.
  pub here : Place
  -- Whether a newline came after the `#` of the directive.
  pub folded : Bool

-- The state before the first line.
abbrev pub start_state : Place → ScanState
start_state place = record {
  context = Limbo;
  contents = empty;
  faults = [];
  sections = 0;
  starred = [];
  here = place;
  folded = false;
}

-- The tokens of the open part of a state.
abbrev pub open_part_tokens : ScanState → List Token
open_part_tokens s = option_map_or (λ (p : Part). p.tokens) s.contents.parts.current []

-- One more token in the open part.
abbrev pub emit : Token → ScanState → ScanState
emit t s = record s { contents = with_token t s.contents }

-- One more occurrence of a name.
abbrev pub add_name : Occurrence → ScanState → ScanState
add_name o s = record s { contents = with_occurrence o s.contents }

-- One more fault at a place.
abbrev pub report_at : ScanKind → Place → ScanState → ScanState
report_at kind place s = record s { faults = s.faults ++ record { kind = kind; place = place } ∷ [] }

-- One more fault on the current line.
abbrev pub report : ScanKind → ScanState → ScanState
report kind s = report_at kind s.here s

-- Moves to the next line, and sets `folded`.
abbrev pub move_to : Place → ScanState → ScanState
move_to place s = record s { here = place; folded = true }

-- Begins a part after its opener, with a Head and a Mark.
abbrev pub begin_part : PartKind → ScanState → ScanState
begin_part kind s =
    let t = emit (Mark s.here) (emit (Head s.sections) (record s { contents = with_open kind s.contents })) in
    record t { context = CText; folded = false }

-- Ends the open part.
abbrev pub end_part : ScanState → ScanState
end_part s = record s { context = TeX; contents = with_closed s.contents }

-- Ends an open macro. Another definition or a part does this.
abbrev pub end_macro : ScanState → ScanState
end_macro s = elim s.context [ Macro ↦ end_part s | _ ↦ s ]

-- A definition without an identifier is dropped.
abbrev pub drop_definition : Place → ScanState → ScanState
drop_definition begun s = record (report_at DefinitionDropped begun s) { context = TeX }

-- A section start and the end of the source end every context.
abbrev pub leave_in : Context → ScanState → ScanState
leave_in (Definition begun) s = drop_definition begun s
leave_in Macro s = end_part s
leave_in CText s = end_part (emit (Tail s.sections) s)
leave_in _ s = s

-- Ends the current context.
abbrev pub leave : ScanState → ScanState
leave s = leave_in s.context s

-- Begins a section.
abbrev pub begin_section : Bool → ScanState → ScanState
begin_section starred s =
    let n = s.sections + 1 in
    record (leave s) { context = TeX; sections = n; starred = s.starred ++ (if starred then n ∷ [] else []) }

-- The directive of the open part.
abbrev pub directive : ScanState → Directive
directive s = directive_of (open_part_tokens s)

-- The context is C text.
abbrev pub is_c : Context → Bool
is_c c = elim c [ Limbo ↦ false | TeX ↦ false | Definition begun ↦ false | Macro ↦ false | CText ↦ true ]

-- A directive of C text is open.
abbrev pub in_directive : ScanState → Bool
in_directive s = is_c s.context && is_some (directive s).tokens

-- The next lexeme of the directive may be an included name.
abbrev pub names_include : ScanState → Bool
names_include s = some_include (directive s).tokens

-- The occurrence of a name's bytes, with blanks squeezed. An abbreviation gives its prefix, and any other name its
-- bytes.
abbrev pub name_occurrence : Bool → List ℕ → Occurrence
name_occurrence is_file text =
    let name = squeezed text in
    if is_abbreviation name then record { text = take (length name - 3) name; how = Prefix; is_file = is_file }
    else record { text = name; how = Full; is_file = is_file }

-- The second place is the line after the first one in the same file.
abbrev pub is_next_line : Place → Place → Bool
is_next_line p q = (p.file.0 == q.file.0) && (p.line + 1 == q.line)
