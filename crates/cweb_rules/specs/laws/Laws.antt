-- Laws of lexemes: which bytes may continue and begin one, what its size pays for, and where an item ends.
use Rattle.std.specs.Prelude.{◌≡◌, ℕ, Bool, true, false, ◌||◌, ◌&&◌, ◌==◌, not, List, [], ◌∷◌, length, codes, ◌≤◌, ◌<◌}
use Rattle.std.specs.Prelude.{◌+◌, Some, None, take, if◌then◌else◌, ◌≢◌, ◌⊎◌, drop}
use Rattle.std.specs.List.{list_all}
use Rattle.cweb_rules.specs.Bytes.{is_digit, is_white, is_word_byte, listed, is_line_end}
use Rattle.cweb_rules.specs.Edges.{is_one_of}
use Rattle.cweb_rules.specs.Matches.{match_in, is_closed, Kind, Code, Quoted, Identifier, Numeral, Punctuator}
use Rattle.cweb_rules.specs.Matches.{rule_match, Skipped, Section, Letter, ControlText, Verbatim, Constant, Occurrence}
use Rattle.cweb_rules.specs.Matches.{Blanks, LineEnd, Comment, Defined, RuleMatch, Context, Effect, EmitAt}
use Rattle.cweb_rules.specs.declared.context.Context.TheVariants.{CText, Limbo, TeX, Definition, Macro}
use Rattle.std.specs.Fmt.{decimal}
use Rattle.cweb_rules.specs.Items.{unescaped, Reach, reach, look_in_control, look_in_name, look_in_comment}
use Rattle.cweb_rules.specs.Items.{look_in_literal, look_in_include, look_in_raw, End}
use Rattle.cweb_rules.specs.declared.look.Look.{Look}
use Rattle.cweb_rules.specs.declared.look.Look.TheVariants.{Goes, Ends}

-- The byte may continue an identifier, or make it a prefix of a literal.
abbrev pub after_word : ℕ → Bool
after_word b = is_word_byte b || is_one_of (codes "\"'") b

-- The byte may continue a number.
abbrev pub after_number : ℕ → Bool
after_number b = after_word b || is_one_of (codes ".+-") b

-- The relation holds for all adjacent bytes.
abbrev pub all_join : (ℕ → ℕ → Bool) → List ℕ → Bool
all_join joins [] = true
all_join joins (x ∷ []) = true
all_join joins (x ∷ y ∷ rest) = joins x y && all_join joins (y ∷ rest)

-- The relation holds for the adjacent bytes of listed punctuators, `/*` and `//`, and for `.` before a digit.
pub record JoinsAll (joins : ℕ → ℕ → Bool) : Type 0 where
  pub punctuators : list_all (all_join joins) listed ≡ true
  pub comment : joins 47 42 ≡ true
  pub line_comment : joins 47 47 ≡ true
  pub number : (digit : ℕ) → is_digit digit ≡ true → joins 46 digit ≡ true

-- The relation holds for the last byte of a source and this byte.
abbrev pub joins_last : (ℕ → ℕ → Bool) → List ℕ → ℕ → Bool
joins_last joins [] c = false
joins_last joins (b ∷ []) c = joins b c
joins_last joins (b ∷ d ∷ t) c = joins_last joins (d ∷ t) c

-- The byte may continue a token of this kind. Nothing continues a literal, since its quote ends it.
abbrev pub continues_lexeme : (ℕ → ℕ → Bool) → Kind → List ℕ → ℕ → Bool
continues_lexeme joins kind bytes b = elim kind [
  | Identifier ↦ after_word b
  | Numeral ↦ after_number b
  | Punctuator ↦ joins_last joins bytes b
  | _ ↦ false
]

abbrev pub emits_at : Effect → Bool
emits_at effect = elim effect [ EmitAt ↦ true | _ ↦ false ]

-- An identifier, a number, a punctuator, a closed literal, or `@@`.
abbrev pub is_token : Kind → Bool
is_token kind = elim kind [
  | Identifier ↦ true
  | Numeral ↦ true
  | Punctuator ↦ true
  | Quoted units how ↦ is_closed how
  | Code effect ↦ emits_at effect
  | _ ↦ false
]

-- The whole source is one token of C text.
pub record IsToken (kind : Kind) (bytes : List ℕ) : Type 0 where
  pub whole : match_in CText false bytes ≡ rule_match kind (length bytes)
  pub token : is_token kind ≡ true

-- The byte may begin a token of this kind.
abbrev pub begins_as : Kind → ℕ → Bool
begins_as kind b = elim kind [
  | Identifier ↦ is_word_byte b && not (is_digit b)
  | Numeral ↦ is_digit b || b == 46
  | Punctuator ↦ not (after_word b || is_white b)
  | Quoted units how ↦ is_one_of (codes "LuUR\"'") b
  | Code effect ↦ b == 64
  | _ ↦ false
]

-- The byte neither ends a comment nor begins a code in it.
abbrev pub is_quiet : ℕ → Bool
is_quiet b = not (42 == b) && not (64 == b)

-- The tokens still owed: the Tail of the open part, and in a head one more, for which its `@d` paid.
abbrev pub owed_tokens : Context → ℕ
owed_tokens Limbo = 1
owed_tokens TeX = 1
owed_tokens (Definition begun) = 2
owed_tokens Macro = 1
owed_tokens CText = 1

-- `n` for each line end.
abbrev pub at_line_ends : ℕ → List ℕ → ℕ
at_line_ends n [] = 0
at_line_ends n (b ∷ t) = if is_line_end b then n + at_line_ends n t else at_line_ends n t

-- The bytes of a lexeme pay for what its kind emits.
abbrev pub Pays : Context → Kind → List ℕ → Type 0
Pays c Skipped bytes = Unit {0}
Pays c (Section starred) bytes = 1 ≤ length bytes
Pays c (Code effect) bytes = 2 ≤ length bytes
Pays c (Letter byte None) bytes = Unit {0}
Pays c (Letter byte (Some text)) bytes = length text ≤ length bytes
Pays c (ControlText how) bytes = Unit {0}
Pays c (Verbatim units how) bytes = (1 ≤ length bytes) × (length (unescaped units) ≤ length bytes)
Pays c (Constant None) bytes = Unit {0}
Pays c (Constant (Some n)) bytes = (1 ≤ length bytes) × (length (decimal n) ≤ length bytes)
Pays c (Occurrence is_file units how opens) bytes = (2 ≤ length bytes) × (length (unescaped units) ≤ length bytes)
Pays c Blanks bytes = 1 ≤ length bytes
Pays c LineEnd bytes = 1 ≤ length bytes
Pays c (Comment how) bytes = at_line_ends 1 bytes + 1 ≤ length bytes
Pays c (Quoted units how) bytes = (1 ≤ length bytes) × (length (unescaped units) ≤ length bytes)
Pays c (Defined tight) bytes = (1 ≤ length bytes) × (owed_tokens c ≡ 2)
Pays c Identifier bytes = 1 ≤ length bytes
Pays c Numeral bytes = 1 ≤ length bytes
Pays c Punctuator bytes = 1 ≤ length bytes

-- The lexeme isn't empty, is within the source, and pays.
pub record FitsAndPays (c : Context) (t : List ℕ) (f : RuleMatch) : Type 0 where
  pub some : 0 < f.size
  pub within : f.size ≤ length t
  pub pays : Pays c f.kind (take f.size t)

-- No unit of `look` is empty.
abbrev pub PassesBytes : (List ℕ → Look) → Type 0
PassesBytes look = (b : ℕ) (t : List ℕ) (n : ℕ) → look (b ∷ t) ≡ Goes n → 0 < n

-- At the start of each unit `look` goes on, over this unit. The rest comes after the last one.
abbrev pub ArePassed : (List ℕ → Look) → List (List ℕ) → List ℕ → List ℕ → Type 0
ArePassed look [] t rest = t ≡ rest
ArePassed look (u ∷ us) t rest = (n : ℕ) × (look t ≡ Goes n) × (u ≡ take n t) × ArePassed look us (drop n t) rest

-- The item ends where `look` ends it, or at the end of the source.
abbrev pub EndsThere : (List ℕ → Look) → End → List ℕ → ℕ → End → Type 0
EndsThere look at_end rest close how =
    ((rest ≢ []) × (look rest ≡ Ends close how)) ⊎ ((rest ≡ []) × (close ≡ 0) × (how ≡ at_end))

-- No unit of an item begins with its end, and the end comes after the last unit.
pub record EndsAtItsFirstEnd (look : List ℕ → Look) (at_end : End) (t : List ℕ) (r : Reach) : Type 0 where
  pub rest : List ℕ
  pub passed : ArePassed look r.units t rest
  pub ends : EndsThere look at_end rest r.close r.how

-- Every item ends at its first end, if no unit is empty.
abbrev pub ItemsEndAtTheirFirstEnd : Type 0
ItemsEndAtTheirFirstEnd = (look : List ℕ → Look) (at_end : End) (t : List ℕ) → PassesBytes look
    → EndsAtItsFirstEnd look at_end t (reach look at_end t)

-- The rules of all items pass bytes.
pub record RulesPassBytes : Type 0 where
  pub control : PassesBytes look_in_control
  pub name : PassesBytes look_in_name
  pub comment : (closes : List ℕ → Bool) (size : ℕ) → PassesBytes (look_in_comment closes size)
  pub literal : (quote : ℕ) → PassesBytes (look_in_literal quote)
  pub include : PassesBytes look_in_include
  pub raw : (closer : List ℕ) → PassesBytes (look_in_raw closer)
