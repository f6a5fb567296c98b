-- The kinds of lexemes, and the next lexeme in each context.
use Rattle.std.specs.Prelude.{ℕ, Bool, List, Option, ◌+◌, true, false, ◌&&◌, nat_le, nat_lt, [], ◌∷◌, ◌++◌}
use Rattle.std.specs.Prelude.{length, take, drop, codes, if◌then◌else◌, Some, None}
use Rattle.std.specs.List.{prefix_len}
pub use Rattle.cweb_rules.specs.declared.effect.Effect.{Effect}
use Rattle.cweb_rules.specs.declared.end.End.{End}
use Rattle.cweb_rules.specs.declared.fault.ScanKind.TheVariants.{ImproperHexNumber}
use Rattle.cweb_rules.specs.Bytes.{is_blank, is_line_end, is_word_byte, begins, at_line_end}
use Rattle.cweb_rules.specs.Bytes.{starts_section, listed, longest, number_len, starts_number}
use Rattle.cweb_rules.specs.Edges.{first_is}
pub use Rattle.cweb_rules.specs.declared.effect.Effect.TheVariants.{Named, Faulty, EmitAt, Define, Format, Program}
pub use Rattle.cweb_rules.specs.declared.effect.Effect.TheVariants.{InsertDefs, Joins}
pub use Rattle.cweb_rules.specs.declared.context.Context.{Context}
pub use Rattle.cweb_rules.specs.declared.context.Context.TheVariants.{Limbo, TeX, Definition, Macro, CText}
use Rattle.cweb_rules.specs.Codes.{in_limbo, in_tex, in_macro, in_c}
use Rattle.cweb_rules.specs.declared.effect.Effect.TheVariants as effect
use Rattle.cweb_rules.specs.Constants.{constant, letter}
use Rattle.cweb_rules.specs.declared.constants.Transliteration.{Transliteration}
use Rattle.cweb_rules.specs.Items.{Reach, body, reach, reach_size, reach_of_comment, reach_of_line_comment, opener_len}
use Rattle.cweb_rules.specs.Items.{look_in_control, look_in_name, look_in_literal, look_in_include, look_in_raw}
use Rattle.cweb_rules.specs.declared.end.End.TheVariants.{Closed, Cut}
use Rattle.cweb_rules.specs.declared.constants.TheConstants.{MAX_REPLACEMENT}
use Rattle.cweb_rules.specs.Literals.{delimiter, literal_prefix, quote_of, raw_closer, raw_prefix, starts_literal, starts_raw}
use Rattle.cweb_rules.specs.declared.rule.Rule.{Rule}
use Rattle.cweb_rules.specs.declared.rule.Rule.TheVariants as rule

-- A kind of lexeme, with what the parser needs of its bytes.
pub data Kind : Type 0 where
  Skipped : Kind
  Section : (starred : Bool) → Kind
  -- a control code of two bytes that begins no longer item
  Code : (effect : Effect) → Kind
  -- `@l` in the right form: a byte and its replacement, or none if that is too long
  Letter : (byte : ℕ) (text : Option (List ℕ)) → Kind
  ControlText : (how : End) → Kind
  Verbatim : (units : List (List ℕ)) (how : End) → Kind
  Constant : (value : Option ℕ) → Kind
  -- a name, and whether the opener of a part follows it
  Occurrence : (is_file : Bool) (units : List (List ℕ)) (how : End) (opens : Bool) → Kind
  Blanks LineEnd : Kind
  Comment : (how : End) → Kind
  Quoted : (units : List (List ℕ)) (how : End) → Kind
  -- the identifier that begins a macro, and whether `(` follows it
  Defined : (tight : Bool) → Kind
  Identifier Numeral Punctuator : Kind

-- The kind and the size of the next lexeme.
pub record RuleMatch : Type 0 where
  pub kind : Kind
  pub size : ℕ

-- A match of this kind and size.
abbrev pub rule_match : Kind → ℕ → RuleMatch
rule_match k n = record { kind = k; size = n }

-- A lexeme with its bytes.
pub record Lexeme : Type 0 where
  pub kind : Kind
  pub bytes : List ℕ

-- A section start: `@*`, or `@` alone.
abbrev pub section_match : List ℕ → RuleMatch
section_match t = if begins (codes "@*") t then rule_match (Section true) 2 else rule_match (Section false) 1

-- A control text with its code and closer.
abbrev pub control_text_match : List ℕ → RuleMatch
control_text_match t = let r = reach look_in_control Cut (drop 2 t) in rule_match (ControlText r.how) (2 + reach_size r)

-- A control text that is emitted verbatim.
abbrev pub verbatim_match : List ℕ → RuleMatch
verbatim_match t = let r = reach look_in_control Cut (drop 2 t) in rule_match (Verbatim r.units r.how) (2 + reach_size r)

-- An ASCII constant with its `@'`.
abbrev pub constant_match : List ℕ → RuleMatch
constant_match t = let v = constant (drop 2 t) in rule_match (Constant v.value) (2 + v.size)

-- The transliteration, without its replacement if that is too long. A faulty `@l` is the code alone.
abbrev pub found_letter_match : Option Transliteration → List ℕ → RuleMatch
found_letter_match None t = rule_match (Code (Faulty ImproperHexNumber)) 2
found_letter_match (Some l) t =
    let bytes = take l.size (drop (2 + l.start) t) in
    rule_match (Letter l.byte (if nat_le l.size MAX_REPLACEMENT then Some bytes else None)) (2 + (l.start + l.size))

-- A transliteration with its `@l`.
abbrev pub letter_match : List ℕ → RuleMatch
letter_match t = found_letter_match (letter (drop 2 t)) t

-- Only a closed name may have the opener of a part after it.
abbrev pub opener_after : End → List ℕ → ℕ
opener_after Closed t = opener_len t
opener_after _ t = 0

-- A name. Its size includes the opener where that opens a part (`takes_sign`).
abbrev pub name_match : Bool → List ℕ → RuleMatch
name_match with_opener t =
    let r = reach look_in_name Cut (drop 2 t) in
    let size = 2 + reach_size r in
    let opener = opener_after r.how (drop size t) in
    rule_match (Occurrence (begins (codes "@(") t) r.units r.how (nat_lt 0 opener))
    (if with_opener then size + opener else size)

-- The lexeme of a control code with this effect.
abbrev pub effect_match : Effect → Bool → List ℕ → RuleMatch
effect_match Named with_opener t = name_match with_opener t
effect_match effect.Letter with_opener t = letter_match t
effect_match effect.ControlText with_opener t = control_text_match t
effect_match effect.Verbatim with_opener t = verbatim_match t
effect_match effect.Constant with_opener t = constant_match t
effect_match e with_opener t = rule_match (Code e) 2

-- A control code: `@` and the next byte.
abbrev pub code_match : (ℕ → Effect) → Bool → List ℕ → RuleMatch
code_match effect with_opener (a ∷ b ∷ t) = effect_match (effect b) with_opener (a ∷ b ∷ t)
code_match effect with_opener t = rule_match Skipped (length t)

-- In limbo and TeX every byte except `@` is skipped.
abbrev pub tex_match : (ℕ → Effect) → List ℕ → RuleMatch
tex_match effect t =
    if starts_section t then section_match t
    else (if begins (codes "@") t then code_match effect true t
    else rule_match Skipped 1)

-- A comment with its `/*`.
abbrev pub comment_match : List ℕ → RuleMatch
comment_match t = let r = reach_of_comment (drop 2 t) in rule_match (Comment r.how) (2 + reach_size r)

-- A comment with its `//`.
abbrev pub line_comment_match : List ℕ → RuleMatch
line_comment_match t = let r = reach_of_line_comment (drop 2 t) in rule_match (Comment r.how) (2 + reach_size r)

-- A literal with its quotes. Its first unit is the first `n` bytes, up to the opening quote.
abbrev pub quoted_match : ℕ → Reach → List ℕ → RuleMatch
quoted_match n r t =
    rule_match (Quoted (take n t ∷ r.units ++ take r.close (drop (n + length (body r)) t) ∷ []) r.how)
    (n + reach_size r)

-- A literal with its prefix.
abbrev pub literal_match : List ℕ → RuleMatch
literal_match t =
    let n = literal_prefix t in
    quoted_match (n + 1) (reach (look_in_literal (quote_of (drop n t))) Cut (drop (n + 1) t)) t

-- A raw literal with its prefix.
abbrev pub raw_match : List ℕ → RuleMatch
raw_match t =
    let m = raw_prefix t + 2 in
    let n = m + length (delimiter (drop m t)) + 1 in
    quoted_match n (reach (look_in_raw (raw_closer (drop m t))) Cut (drop n t)) t

-- The item ended by its closer.
abbrev pub is_closed : End → Bool
is_closed how = elim how [ Closed ↦ true | _ ↦ false ]

-- An included name is next: `<` with a `>` later in its line.
abbrev pub starts_include : List ℕ → Bool
starts_include t = begins (codes "<") t && is_closed (reach look_in_include Cut (drop 1 t)).how

-- An included name with its `<` and `>`.
abbrev pub include_match : List ℕ → RuleMatch
include_match t = quoted_match 1 (reach look_in_include Cut (drop 1 t)) t

-- The first rule of C text that applies.
abbrev pub c_rule : Bool → List ℕ → Rule
c_rule includes t =
    if first_is is_blank t then rule.Blanks
    else (if first_is is_line_end t then rule.LineEnd
    else (if begins (codes "/*") t then rule.Comment
    else (if begins (codes "//") t then rule.LineComment
    else (if starts_section t then rule.Section
    else (if begins (codes "@") t then rule.Code
    else (if starts_raw t then rule.RawLiteral
    else (if starts_literal t then rule.Literal
    else (if includes && starts_include t then rule.IncludedName
    else (if starts_number t then rule.Number
    else (if first_is is_word_byte t then rule.Identifier
    else rule.Punctuator))))))))))

-- The lexeme of a rule.
abbrev pub c_match_by : (ℕ → Effect) → Bool → List ℕ → Rule → RuleMatch
c_match_by effect with_opener t rule.Blanks = rule_match Blanks (prefix_len is_blank t)
c_match_by effect with_opener t rule.LineEnd = rule_match LineEnd 1
c_match_by effect with_opener t rule.Comment = comment_match t
c_match_by effect with_opener t rule.LineComment = line_comment_match t
c_match_by effect with_opener t rule.Section = section_match t
c_match_by effect with_opener t rule.Code = code_match effect with_opener t
c_match_by effect with_opener t rule.RawLiteral = raw_match t
c_match_by effect with_opener t rule.Literal = literal_match t
c_match_by effect with_opener t rule.IncludedName = include_match t
c_match_by effect with_opener t rule.Number = rule_match Numeral (number_len 0 t)
c_match_by effect with_opener t rule.Identifier = rule_match Identifier (prefix_len is_word_byte t)
c_match_by effect with_opener t rule.Punctuator = rule_match Punctuator (longest listed t)

-- The next lexeme of C text.
abbrev pub c_match : (ℕ → Effect) → Bool → Bool → List ℕ → RuleMatch
c_match effect with_opener includes t = c_match_by effect with_opener t (c_rule includes t)

-- A macro is like C text, but `\` before a line end is skipped.
abbrev pub macro_match : List ℕ → RuleMatch
macro_match t = if begins (codes "\\") t && at_line_end
    (drop 1 t) then rule_match Skipped 1 else c_match in_macro true false t

-- A head (after `@d`) has blanks, line ends and comments before the identifier. Anything else is TeX again.
abbrev pub head_match_of : Kind → RuleMatch → List ℕ → RuleMatch
head_match_of Blanks f t = f
head_match_of LineEnd f t = f
head_match_of (Comment how) f t = f
head_match_of Identifier f t = rule_match (Defined (begins (codes "(") (drop f.size t))) f.size
head_match_of k f t = tex_match in_tex t

-- The next lexeme in a head.
abbrev pub head_match : List ℕ → RuleMatch
head_match t = let f = c_match in_macro true false t in head_match_of f.kind f t

-- The next lexeme of a nonempty source in a context.
abbrev pub match_in : Context → Bool → List ℕ → RuleMatch
match_in Limbo includes t = tex_match in_limbo t
match_in TeX includes t = tex_match in_tex t
match_in (Definition begun) includes t = head_match t
match_in Macro includes t = macro_match t
match_in CText includes t = c_match in_c false includes t
