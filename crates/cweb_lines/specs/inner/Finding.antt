-- Newlines, the name in an include line, and what a search for its file returns.
use Rattle.std.specs.Prelude.{◌≡◌, ℕ, List, [], Option, None, Some, Result, IfOk, string_bytes, Bool, ◌∷◌}
use Rattle.std.specs.Prelude.{if◌then◌else◌, zero, suc, ◌+◌, ◌<◌, ◌++◌, length, take, drop, slice_index}
use Rattle.cweb_files.specs.Shelves.{Observed, ShelfContents, ShelfModel}
use Rattle.cweb_lines.specs.Include.{Found, ends_name}
use Rattle.cweb_lines.specs.Lines.{SourceLine, lines_in}
use Rattle.cweb_lines.specs.declared.files.find.Opening.{Opening}
use Rattle.cweb_lines.specs.surface.OpenedFileNames.{HasNoNewline}

-- An opening as a file that was found. Its contents are what its reader has left.
abbrev pub found_as : {R : Type 0} → (R → List ℕ) → Option (Opening R) → Option Found
found_as left None = None
found_as left (Some opening) = Some (string_bytes opening.name, left opening.reader)

-- The reader of an opening was opened under its name.
abbrev pub IsOpened : {R : Type 0} → (R → List ℕ) → Option (Opening R) → Type 0
IsOpened opened_as None = Unit {0}
IsOpened opened_as (Some opening) = opened_as opening.reader ≡ string_bytes opening.name

-- The lines of a change file, whose file number is 1.
abbrev pub lines_found : Option Found → List SourceLine
lines_found None = []
lines_found (Some found) = lines_in 1 found.1

-- A file is looked up and not read. It is the expected one, with a reader that was opened under its name, or there is
-- none.
pub record FindsFile {R E : Type 0} (old new : ShelfModel R) (expected : ShelfContents R → Option Found)
    (result : Result (Option (Opening R)) E) : Type 0 where
  pub same : new ≡ old
  pub found : Observed old (λ seen. IfOk result (λ opening. found_as seen.left opening ≡ expected seen))
  pub opened : Observed old (λ seen. IfOk result (IsOpened seen.opened_as))

-- The bytes before the end of a name.
abbrev pub until_name_end : Bool → List ℕ → List ℕ
until_name_end quoted [] = []
until_name_end quoted (b ∷ bs) = if ends_name quoted b then [] else b ∷ until_name_end quoted bs

-- The first newline is at this index.
pub record SplitsAt (text : List ℕ) (at : ℕ) : Type 0 where
  pub within : at < length text
  pub split : text ≡ take at text ++ 10 ∷ drop (at + 1) text
  pub before : HasNoNewline (take at text)

-- The index of the first newline, if there is one.
abbrev pub IsNewlineAt : List ℕ → Option ℕ → Type 0
IsNewlineAt text None = HasNoNewline text
IsNewlineAt text (Some at) = SplitsAt text at

-- The byte before an index. Before index 0 it is a newline.
abbrev pub byte_before : List ℕ → ℕ → ℕ
byte_before text zero = 10
byte_before text (suc at) = slice_index text at
