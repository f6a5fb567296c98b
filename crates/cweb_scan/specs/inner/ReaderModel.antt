-- The model of a reader: the state, an item that is open at the end of a line, and the room in the store.
use Rattle.std.specs.Prelude.{◌≡◌, ◌<◌, ℕ, ◌+◌, true, length, ◌≤◌, ◌*◌, Bool, false, List, [], ◌∷◌, ◌++◌, drop}
use Rattle.cweb_store.specs.surface.Tokens.{too_many, token_count, part_count}
use Rattle.cweb_scan.specs.State.{ScanState, move_to, start_state}
use Rattle.cweb_scan.specs.inner.ScanParts.{in_open_part, no_place}
use Rattle.cweb_lines.specs.Lines.{Line}
use Rattle.cweb_files.specs.declared.place.Place.{Place}
use Rattle.cweb_rules.specs.inner.LineItems.{AtLineEnd, IsLine}
use Rattle.cweb_scan.specs.Effects.{Reading}
use Rattle.cweb_scan.specs.Lexemes.{lex, read_lines}
use Rattle.cweb_scan.specs.laws.Laws.{newline_prefixed, places}

-- The builder accepts so many tokens, a part and an occurrence. A section has a number.
pub record HasItemRoom (tokens : ℕ) (s : ScanState) : Type 0 where
  pub for_tokens : token_count s.contents.parts + tokens < too_many
  pub for_a_part : part_count s.contents.parts + 1 < too_many
  pub for_an_occurrence : length s.contents.occurrences + 1 < too_many
  pub for_a_section : s.sections + 1 < too_many

-- A part is open, and the builder accepts so many of its tokens.
pub record CanEmit (tokens : ℕ) (s : ScanState) : Type 0 where
  pub part : in_open_part s.context ≡ true
  pub room : HasItemRoom tokens s

-- The builder accepts a part and two tokens.
pub record HasPartRoom (s : ScanState) : Type 0 where
  pub for_tokens : token_count s.contents.parts + 2 < too_many
  pub for_a_part : part_count s.contents.parts + 1 < too_many

-- The weight of a state: its tokens, parts, occurrences and sections.
abbrev pub weight : ScanState → ℕ
weight s = token_count s.contents.parts + part_count s.contents.parts + length s.contents.occurrences + s.sections

-- No item, or the source so far of an open one. The lines after its newlines have these places.
pub data OpenItem : Type 0 where
  Between : OpenItem
  Pending : (text : List ℕ) (places : List Place) → OpenItem

abbrev pub is_pending : OpenItem → Bool
is_pending i = elim i [ Between ↦ false | Pending text places ↦ true ]

abbrev pub pending_text : OpenItem → List ℕ
pending_text Between = []
pending_text (Pending text places) = text

abbrev pub pending_places : OpenItem → List Place
pending_places Between = []
pending_places (Pending text places) = places

-- The state before the open item.
pub record ReaderModel : Type 0 where
  pub state : ScanState
  pub item : OpenItem
  -- Whether a line was taken.
  pub begun : Bool

-- The reader before the first line.
abbrev pub new_reader : ReaderModel
new_reader = record { state = start_state no_place; item = Between; begun = false }

-- The source of a pending item with the next line.
abbrev pub with_line : List ℕ → List ℕ → List ℕ
with_line text line = (text ++ 10 ∷ []) ++ line

-- The reading after the rest of a line and the lines after it.
abbrev pub read_on : ReaderModel → List Place → List ℕ → Reading
read_on h later t = lex (record { state = h.state; later = pending_places h.item ++ later }) (pending_text h.item ++ t)

abbrev pub reader_at : Place → ReaderModel
reader_at place = record { state = start_state place; item = Between; begun = true }

-- The reading after the remaining lines.
abbrev pub read_after : ReaderModel → List Line → Reading
read_after h lines = elim h.begun [
  | false ↦ read_lines lines
  | true ↦ read_on h (places lines) (newline_prefixed lines)
]

-- The newline before a line was taken, and the first n bytes of the line with it.
pub record TakesLineEnd (place : Place) (line : List ℕ) (n : ℕ) (old new : ReaderModel) : Type 0 where
  pub begun : new.begun ≡ true
  pub same : (later : List Place) (more : List ℕ) → AtLineEnd more
      → read_on new later (drop n line ++ more) ≡ read_on old (place ∷ later) (10 ∷ line ++ more)

-- The bytes of a line were taken. A newline or nothing follows.
pub record TakesBytes (line : List ℕ) (old new : ReaderModel) : Type 0 where
  pub begun : new.begun ≡ old.begun
  pub same : (later : List Place) (more : List ℕ) → AtLineEnd more
      → read_on new later more ≡ read_on old later (line ++ more)

-- The weight so far, and what the open item may add: at most three for each byte.
abbrev pub cost : ReaderModel → ℕ
cost h = weight h.state + 3 * length (pending_text h.item)

-- The first n bytes of the rest of a line were taken. Each byte adds at most three to the cost.
pub record TakesPrefix (n : ℕ) (rest : List ℕ) (old new : ReaderModel) : Type 0 where
  pub begun : new.begun ≡ old.begun
  pub within : n ≤ length rest
  pub adds : cost new ≤ cost old + 3 * n
  pub same : (later : List Place) (more : List ℕ) → AtLineEnd more
      → read_on new later (drop n rest ++ more) ≡ read_on old later (rest ++ more)

-- A line begins: the first one, or one after a newline. Its first n bytes belong to the pending item, all if that stays
-- open.
pub record BeginsLine (place : Place) (line : List ℕ) (n : ℕ) (old new : ReaderModel) : Type 0 where
  pub first : old.begun ≡ false → (n ≡ 0) × (new ≡ reader_at place)
  pub next : old.begun ≡ true → TakesLineEnd place line n old new
  pub within : n ≤ length line
  pub adds : cost new ≤ cost old + 3 * (n + 1)
  pub last : is_pending new.item ≡ true → n ≡ length line

-- A line without newlines, and room for what it and the newline before it add.
pub record HasLineRoom (line : List ℕ) (h : ReaderModel) : Type 0 where
  pub clean : IsLine line
  pub room : cost h + 3 * (length line + 1) + 8 < too_many

-- A line was taken, with the newline before it.
pub record TakesLine (place : Place) (line : List ℕ) (old new : ReaderModel) : Type 0 where
  pub read : (lines : List Line)
      → read_after new lines ≡ read_after old (record { bytes = line; place = place } ∷ lines)
  pub adds : cost new ≤ cost old + 3 * (length line + 1)

-- Holds the source of an item that the line leaves open.
abbrev pub holding : List ℕ → ReaderModel → ReaderModel
holding text h = record { state = h.state; item = Pending text []; begun = h.begun }

-- Moves to another line outside C text.
abbrev pub gone_to : Place → ReaderModel → ReaderModel
gone_to place h = record h { state = move_to place h.state }

-- The state at the end of the source, which ends an open item.
abbrev pub source_ended : ReaderModel → ScanState
source_ended h = (read_on h [] []).state

-- No item is open, the context allows the next lexeme, and the store has room for it.
pub record AwaitsLexeme (allowed : Type 0) (h : ReaderModel) : Type 0 where
  pub between : h.item ≡ Between
  pub context : allowed
  pub room : HasItemRoom 2 h.state

-- At least one byte was taken, since no item was open. A pending item takes the whole rest.
pub record MakesProgress (n : ℕ) (rest : List ℕ) (old new : ReaderModel) : Type 0 where
  pub some : 1 ≤ n
  pub last : is_pending new.item ≡ true → n ≡ length rest
  pub taken : TakesPrefix n rest old new
