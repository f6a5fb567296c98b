-- The lines of a file, and what a merge still has to process.
use Rattle.std.specs.Prelude.{ℕ, ◌+◌, Bool, ◌||◌, ◌==◌, List, [], ◌∷◌, length, if◌then◌else◌}
pub use Rattle.cweb_files.specs.declared.place.Place.{Place}
use Rattle.cweb_lines.specs.declared.fault.SourceFault.{SourceFault}

-- A raw line: its bytes without the newline, and its size with the newline, if it has one.
pub record CutLine : Type 0 where
  pub bytes : List ℕ
  pub size : ℕ

-- Prepends a byte to the first line.
abbrev pub onto_first : ℕ → List CutLine → List CutLine
onto_first b [] = record { bytes = b ∷ []; size = 1 } ∷ []
onto_first b (line ∷ lines) = record { bytes = b ∷ line.bytes; size = line.size + 1 } ∷ lines

-- Splits at newlines (byte 10) and drops an empty last line.
abbrev pub cut_lines : List ℕ → List CutLine
cut_lines [] = []
cut_lines (b ∷ bs) =
    if b == 10 then record { bytes = []; size = 1 } ∷ cut_lines bs else onto_first b (cut_lines bs)

-- Blank, tab, carriage return, vertical tab or form feed.
abbrev pub is_blank : ℕ → Bool
is_blank b = b == 32 || b == 9 || b == 13 || b == 11 || b == 12

-- Prepends a byte to a trimmed line, unless the result is a single blank.
abbrev pub before_blanks : ℕ → List ℕ → List ℕ
before_blanks b [] = if is_blank b then [] else b ∷ []
before_blanks b (c ∷ cs) = b ∷ c ∷ cs

-- Drops trailing blanks.
abbrev pub trimmed : List ℕ → List ℕ
trimmed [] = []
trimmed (b ∷ bs) = before_blanks b (trimmed bs)

-- A trimmed line and its place.
pub record Line : Type 0 where
  pub bytes : List ℕ
  pub place : Place

-- A line of a file, with its untrimmed length without and with the newline.
pub record SourceLine : Type 0 where
  pub line : Line
  pub length : ℕ
  pub size : ℕ

-- Trims and numbers the lines of a file from this number on.
abbrev pub numbered_lines : ℕ → ℕ → List CutLine → List SourceLine
numbered_lines file number [] = []
numbered_lines file number (line ∷ lines) =
    record {
      line = record { bytes = trimmed line.bytes; place = record { file = record { 0 = file }; line = number } };
      length = length line.bytes;
      size = line.size;
    } ∷ numbered_lines file (number + 1) lines

-- The lines of a file, numbered from 1.
abbrev pub lines_in : ℕ → List ℕ → List SourceLine
lines_in file text = numbered_lines file 1 (cut_lines text)

-- A line that a change may still replace, or that is obeyed or emitted.
pub record RawLine : Type 0 where
  pub source : SourceLine
  -- 1 for the web's own lines, one more in each included file
  pub depth : ℕ
  -- whether it may match a change entry
  pub may_match : Bool

-- What is still to come: a search for an entry, a raw line, a fault of a change's new side, or a code line to skip.
pub data Thing : Type 0 where
  seek : Thing
  raw : RawLine → Thing
  reported : SourceFault → Thing
  passed : SourceLine → Thing

-- The lines of a source as raw lines.
abbrev pub raws : ℕ → Bool → List SourceLine → List Thing
raws depth may_match [] = []
raws depth may_match (line ∷ lines) =
    raw (record { source = line; depth = depth; may_match = may_match }) ∷ raws depth may_match lines
