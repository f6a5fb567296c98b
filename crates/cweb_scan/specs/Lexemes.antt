-- The lexemes of a text, what a scan makes of them, and C text that is one token alone.
use Rattle.std.specs.Prelude.{◌≡◌, ℕ, Bool, false, ◌==◌, ◌||◌, not, List, [], ◌∷◌, ◌++◌, length, codes, if◌then◌else◌}
use Rattle.std.specs.Prelude.{Option, Some, None, bytes_eq, filter, ◌-◌, take, map, zero, suc}
use Rattle.std.specs.List.{flat_map, list_all, fold}
use Rattle.cweb_store.specs.Parts.{Part, Token, Word, Number, Literal, Punct, is_layout, is_comment}
use Rattle.cweb_rules.specs.Matches.{match_in, Kind, Quoted, Identifier, Numeral, Punctuator, Code, rule_match, Lexeme}
use Rattle.cweb_rules.specs.Items.{unescaped}
use Rattle.cweb_rules.specs.declared.end.End.{End}
use Rattle.cweb_rules.specs.declared.end.End.TheVariants.{Closed}
use Rattle.cweb_rules.specs.declared.context.Context.TheVariants.{CText}
use Rattle.cweb_rules.specs.declared.effect.Effect.TheVariants.{EmitAt}
use Rattle.cweb_scan.specs.State.{directive, ScanState, open_part_tokens, names_include, start_state, leave, is_punct}
use Rattle.cweb_lines.specs.Lines.{Line}
use Rattle.cweb_store.specs.Calls.{Stored, finished}
use Rattle.cweb_rules.specs.declared.fault.ScanFault.{ScanFault}
use Rattle.cweb_scan.specs.Effects.{Reading, after_lexeme}

-- A byte, with `@` doubled.
abbrev pub at_doubled : ℕ → List ℕ
at_doubled b = if b == 64 then codes "@@" else b ∷ []

-- Bytes with each `@` doubled.
abbrev pub doubled : List ℕ → List ℕ
doubled bytes = flat_map at_doubled bytes

-- Layout, section comments and line marks are insignificant.
abbrev pub is_insignificant : Token → Bool
is_insignificant token = is_layout token || is_comment token

-- The significant tokens.
abbrev pub significant : List Token → List Token
significant tokens = filter (λ token. not (is_insignificant token)) tokens

-- Each `@` of a literal is doubled.
abbrev pub is_clean : List (List ℕ) → Bool
is_clean units = list_all (λ unit. not (bytes_eq unit (codes "@"))) units

-- The token of a literal's units, if it has no fault.
abbrev pub literal_token : List (List ℕ) → End → Option Token
literal_token units how =
    elim how [ Closed ↦ (if is_clean units then Some (Literal (unescaped units)) else None) | _ ↦ None ]

-- The token of a lexeme of C text, if it has no fault. Of the control codes only `@@` stands for a token of its own.
abbrev pub token_of : Kind → List ℕ → Option Token
token_of kind bytes = elim kind [
  | Quoted units how ↦ literal_token units how
  | Identifier ↦ Some (Word bytes)
  | Numeral ↦ Some (Number bytes)
  | Punctuator ↦ Some (Punct bytes)
  | Code effect ↦ elim effect [ EmitAt ↦ Some (Punct (codes "@")) | _ ↦ None ]
  | _ ↦ None
]

-- The bytes of a token.
abbrev pub spelling_of : Token → List ℕ
spelling_of t = elim t [ Word b ↦ b | Number b ↦ b | Literal b ↦ b | Punct b ↦ b | _ ↦ [] ]

-- The token's bytes with each `@` doubled, read as C text, are exactly this token, without a fault.
pub record ReadsAlone (t : Token) : Type 0 where
  pub kind : Kind
  pub whole : match_in CText false (doubled (spelling_of t)) ≡ rule_match kind (length (doubled (spelling_of t)))
  pub token : token_of kind (doubled (spelling_of t)) ≡ Some t

-- The punctuator that begins a directive.
abbrev pub is_hash : Token → Bool
is_hash token = is_punct (codes "#") (Some token)

-- A C part is open, and no directive in it.
pub record InPlainC (s : ScanState) : Type 0 where
  pub part : Part
  pub open_part : s.contents.parts.current ≡ Some part
  pub in_c : s.context ≡ CText
  pub no_directive : (directive s).tokens ≡ None

-- The part has these further significant tokens, and there are no new faults.
pub record HasReadTokens (before after : ScanState) (ts : List Token) : Type 0 where
  pub plain : InPlainC after
  pub tokens : significant (open_part_tokens after) ≡ significant (open_part_tokens before) ++ ts
  pub faults : after.faults ≡ before.faults

-- The lexemes of a source, each by the context after the lexemes before it. The first `inner` bytes belong to the
-- previous lexeme.
abbrev pub lexemes_in : ℕ → Reading → List ℕ → List Lexeme
lexemes_in inner r [] = []
lexemes_in (suc inner) r (b ∷ t) = lexemes_in inner r t
lexemes_in zero r (b ∷ t) =
    let f = match_in r.state.context (names_include r.state) (b ∷ t) in
    let p : Lexeme = record { kind = f.kind; bytes = take f.size (b ∷ t) } in
    p ∷ lexemes_in (f.size - 1) (after_lexeme r p) t

-- The reading after a source.
abbrev pub lex : Reading → List ℕ → Reading
lex r t = fold after_lexeme r (lexemes_in 0 r t)

-- The result of a scan.
pub record Scanned : Type 0 where
  pub store : Stored
  pub faults : List ScanFault
  pub sections : ℕ
  pub starred : List ℕ

-- The reading after the merged lines. The source is these lines joined by newlines. An empty web has the place of line 0
-- of file 0.
abbrev pub read_lines : List Line → Reading
read_lines [] = record { state = start_state (record { file = record { 0 = 0 }; line = 0 }); later = [] }
read_lines (line ∷ lines) =
    lex (record { state = start_state line.place; later = map (λ l. l.place) lines })
    (line.bytes ++ flat_map (λ (l : Line). 10 ∷ l.bytes) lines)

-- The result of a scan of the merged lines, at the end of the source.
abbrev pub scanned : List Line → Scanned
scanned lines = let s = leave (read_lines lines).state in
    record { store = finished s.contents; faults = s.faults; sections = s.sections; starred = s.starred }
