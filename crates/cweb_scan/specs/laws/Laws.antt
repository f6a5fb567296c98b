-- Laws of lexemes: their list, their places, what they count, and tokens that stand alone.
use Rattle.std.specs.Prelude.{◌≡◌, ◌<◌, ℕ, Bool, true, List, [], ◌∷◌, ◌++◌, length, All, map, Some, ◌+◌, Option, None}
use Rattle.std.specs.Prelude.{filter_map, if◌then◌else◌, false}
use Rattle.cweb_lines.specs.Lines.{Line}
use Rattle.cweb_files.specs.declared.place.Place.{Place}
use Rattle.cweb_store.specs.Parts.{Token, Mark, all_tokens, Word, Number, Punct}
use Rattle.cweb_rules.specs.Matches.{Lexeme, RuleMatch, match_in, Kind, Section, Occurrence}
use Rattle.cweb_scan.specs.State.{ScanState, names_include, start_state, name_occurrence}
use Rattle.cweb_scan.specs.Effects.{Reading, after_lexeme}
use Rattle.cweb_scan.specs.Lexemes.{Scanned, lexemes_in, scanned, lex, HasReadTokens}
use Rattle.std.specs.List.{flat_map, fold, slice_get}
use Rattle.cweb_rules.specs.laws.Laws.{at_line_ends, after_word, after_number, joins_last}
use Rattle.cweb_rules.specs.Items.{unescaped}
use Rattle.cweb_store.specs.Names as names

-- The next lexeme, by the context after the lexemes before it.
abbrev pub next_match : ScanState → List ℕ → RuleMatch
next_match s t = match_in s.context (names_include s) t

-- The lexeme is a prefix of the source, and the one that the rules determine.
pub record IsRuleMatch (r : Reading) (t : List ℕ) (p : Lexeme) : Type 0 where
  pub kind : p.kind ≡ (next_match r.state t).kind
  pub size : length p.bytes ≡ (next_match r.state t).size

-- Each lexeme is the one that the rules determine in the context after the lexemes before it.
abbrev pub AreLexemes : Reading → List ℕ → List Lexeme → Type 0
AreLexemes r t [] = t ≡ []
AreLexemes r t (p ∷ ps) = (rest : List ℕ) × (t ≡ p.bytes ++ rest) × (0 < length p.bytes) × IsRuleMatch r t p
    × AreLexemes (after_lexeme r p) rest ps

abbrev pub MarkPasses : (Place → Bool) → Token → Type 0
MarkPasses test (Mark place) = test place ≡ true
MarkPasses test t = Unit {0}

-- The places of all Marks and faults pass a test.
pub record PlacesPass (test : Place → Bool) (s : Scanned) : Type 0 where
  pub marks : All (MarkPasses test) (all_tokens s.store.parts)
  pub faults : All (λ f. test f.place ≡ true) s.faults

-- The places of lines.
abbrev pub places : List Line → List Place
places lines = map (λ l. l.place) lines

-- The lines, with a newline before each.
abbrev pub newline_prefixed : List Line → List ℕ
newline_prefixed lines = flat_map (λ (line : Line). 10 ∷ line.bytes) lines

-- The lexemes of a source.
abbrev pub lexemes : Reading → List ℕ → List Lexeme
lexemes r t = lexemes_in 0 r t

-- The reading before the first lexeme of some lines.
abbrev pub source_start : Line → List Line → Reading
source_start line lines = record { state = start_state line.place; later = places lines }

-- The lines joined by newlines.
abbrev pub joined_lines : Line → List Line → List ℕ
joined_lines line lines = line.bytes ++ newline_prefixed lines

-- The place of the next lexeme.
abbrev pub place_after : Reading → List Lexeme → Place
place_after r before = (fold after_lexeme r before).state.here

-- The number of newlines in some lexemes.
abbrev pub newlines : List Lexeme → ℕ
newlines before = at_line_ends 1 (flat_map (λ p. p.bytes) before)

-- Each lexeme has the place of the line of its first byte, whose index is the number of newlines before the lexeme.
abbrev pub LexemesKeepLines : Line → List Line → Type 0
LexemesKeepLines line lines =
    (before : List Lexeme) (p : Lexeme) (after : List Lexeme)
    → lexemes (source_start line lines) (joined_lines line lines) ≡ before ++ p ∷ after
    → slice_get (places (line ∷ lines)) (newlines before) ≡ Some (place_after (source_start line lines) before)

-- The lexemes of some lines, joined by newlines.
abbrev pub lexemes_of_lines : List Line → List Lexeme
lexemes_of_lines [] = []
lexemes_of_lines (line ∷ lines) = lexemes (source_start line lines) (joined_lines line lines)

-- A section start: whether it is `@*`.
abbrev pub section_start : Kind → Option Bool
section_start kind = elim kind [ Section starred ↦ Some starred | _ ↦ None ]

-- The section starts among lexemes, in order.
abbrev pub section_starts : List Lexeme → List Bool
section_starts ps = filter_map (λ p. section_start p.kind) ps

-- The numbers of the starred sections, if the first one has this number.
abbrev pub starred_numbers : ℕ → List Bool → List ℕ
starred_numbers n [] = []
starred_numbers n (starred ∷ rest) = (if starred then n ∷ [] else []) ++ starred_numbers (n + 1) rest

-- A section for each section start. The starred sections are those that `@*` begins.
pub record SectionsAreSectionStarts (lines : List Line) : Type 0 where
  pub number : (scanned lines).sections ≡ length (section_starts (lexemes_of_lines lines))
  pub starred : (scanned lines).starred ≡ starred_numbers 1 (section_starts (lexemes_of_lines lines))

-- The occurrence of a lexeme that is a name.
abbrev pub occurrence_of_kind : Kind → Option names.Occurrence
occurrence_of_kind kind =
    elim kind [ Occurrence is_file units how opens ↦ Some (name_occurrence is_file (unescaped units)) | _ ↦ None ]

-- The occurrences are the lexemes that are names, in order.
abbrev pub OccurrencesAreLexemes : List Line → Type 0
OccurrencesAreLexemes lines = (scanned lines).store.occurrences
    ≡ filter_map (λ p. occurrence_of_kind p.kind) (lexemes_of_lines lines)

-- A byte that may continue a token.
abbrev pub continues_token : (ℕ → ℕ → Bool) → Token → ℕ → Bool
continues_token joins (Word bytes) b = after_word b
continues_token joins (Number bytes) b = after_number b
continues_token joins (Punct bytes) b = joins_last joins bytes b
continues_token joins token b = false

-- Bytes are read as these tokens, and the rest is read after them.
pub record IsReadAs (r : Reading) (text rest : List ℕ) (ts : List Token) : Type 0 where
  pub next : Reading
  pub goes_on : lex r (text ++ rest) ≡ lex next rest
  pub read : HasReadTokens r.state next.state ts
