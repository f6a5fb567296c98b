-- What open sources have left, whose readers they have, and which stops taking a line has.
use Rattle.std.specs.Prelude.{ℕ, List, slice_range, ◌≡◌, zero, suc, ◌+◌, ◌-◌, Bool, false, [], ◌++◌, Option, None, Some}
use Rattle.std.specs.Prelude.{Result, Ok, Err, slice_index_or, ◌∷◌, option_map}
use Rattle.cweb_lines.specs.declared.source.Source.{Source}
use Rattle.cweb_lines.specs.Lines.{SourceLine, numbered_lines, cut_lines, Thing, raws}
pub use Rattle.cweb_lines.specs.declared.open_source.stack.Stack.{Stack}
pub use Rattle.cweb_lines.specs.declared.stop.Stop.{Stop}
pub use Rattle.cweb_lines.specs.declared.stop.Stop.TheVariants.{WebNotOpened, ChangeNotOpened, ReadFault, LineTooLong}
pub use Rattle.cweb_lines.specs.declared.stop.Stop.TheVariants.{TooMuchText, Memory, WriteFault}
pub use Rattle.cweb_lines.specs.declared.open_source.OpenSource.{OpenSource}
use Rattle.cweb_files.specs.Shelves.{ShelfContents, ShelfModel}
use Rattle.cweb_files.specs.declared.place.FileId.{FileId}
use Rattle.cweb_lines.specs.OpenSources.{TakenCountersModel}
use Rattle.cweb_lines.specs.declared.counters.TakenCounters.{TakenCounters}

-- The unread buffer of a source.
abbrev pub buffered : {R : Type 0} → Source R → List ℕ
buffered source = slice_range source.buffer.items source.start source.end

-- The lines that an open source has left.
abbrev pub lines_left : {R : Type 0} → (R → List ℕ) → OpenSource R → List SourceLine
lines_left left text = numbered_lines text.file.0 (text.line + 1) (cut_lines
    (buffered text.source ++ left text.source.reader.value))

abbrev pub lines_at : {R : Type 0} → (R → List ℕ) → Option (OpenSource R) → List SourceLine
lines_at left None = []
lines_at left (Some text) = lines_left left text

-- A number of a slot's source, or 0 if the slot is empty.
abbrev pub number_or_zero : {R : Type 0} → (OpenSource R → ℕ) → Option (OpenSource R) → ℕ
number_or_zero number None = 0
number_or_zero number (Some text) = number text

-- The stops of taking a line: a failed read, out of memory, or a line for which `Why` holds.
abbrev pub StopsFor : Type 0 → Stop → Type 0
StopsFor Why (ReadFault file) = Unit {0}
StopsFor Why (LineTooLong file) = Why
StopsFor Why TooMuchText = Why
StopsFor Why Memory = Unit {0}
StopsFor Why _ = ⊥

-- The stops of taking lines.
abbrev pub StopsReading : Stop → Type 0
StopsReading stop = StopsFor (Unit {0}) stop

-- The stops with which a merge may begin.
abbrev pub StartStops : Stop → Type 0
StartStops WebNotOpened = Unit {0}
StartStops ChangeNotOpened = Unit {0}
StartStops Memory = Unit {0}
StartStops _ = ⊥

abbrev pub matches_at : {R : Type 0} → Option (OpenSource R) → Bool
matches_at None = false
matches_at (Some text) = text.may_match

abbrev pub source_depth : {R : Type 0} → OpenSource R → ℕ
source_depth text = text.depth

-- The lines of a slot's source as things to come.
abbrev pub things_at : {R : Type 0} → (R → List ℕ) → Option (OpenSource R) → List Thing
things_at left slot = raws (number_or_zero source_depth slot) (matches_at slot) (lines_at left slot)

-- The lines of `n` sources from index `low` on, the deepest first, and then `rest`.
abbrev pub things_over : {R : Type 0} → (R → List ℕ) → ℕ → ℕ → List (Option (OpenSource R)) → List Thing → List Thing
things_over left low zero texts rest = rest
things_over left low (suc n) texts rest = things_at left (slice_index_or texts (low + n) None)
    ++ things_over left low n texts rest

-- The lines of all open sources from index `low` on, and then `rest`.
abbrev pub things_above : {R : Type 0} → (R → List ℕ) → ℕ → Stack R → List Thing → List Thing
things_above left low stack rest = things_over left low (stack.depth - low) stack.texts rest

-- The least number of files that a stop's `FileId` implies.
abbrev pub files_named : Stop → ℕ
files_named (ReadFault file) = file.0 + 1
files_named (LineTooLong file) = file.0 + 1
files_named _ = 0

-- The name of a file, among those of all opened files.
abbrev pub name_of_file : List (List ℕ) → FileId → List ℕ
name_of_file names file = slice_index_or names file.0 []

-- The reader of a slot's source was opened under the name of its file.
abbrev pub IsReaderNamed : {R : Type 0} → (R → List ℕ) → List (List ℕ) → Option (OpenSource R) → Type 0
IsReaderNamed opened_as names None = Unit {0}
IsReaderNamed opened_as names (Some text) = opened_as text.source.reader.value ≡ name_of_file names text.file

abbrev pub AreReadersNamed : {R : Type 0} → (R → List ℕ) → List (List ℕ) → List (Option (OpenSource R)) → Type 0
AreReadersNamed opened_as names texts = (place : ℕ) → IsReaderNamed opened_as names (slice_index_or texts place None)

-- A read fails, and blames this name.
abbrev pub blaming : {R : Type 0} → List ℕ → ShelfModel R → ShelfModel R
blaming {R = R} name shelf = record {
  failed = shelf.failed + 1;
  contents = option_map (λ (now : ShelfContents R). record now { blamed = now.blamed ++ name ∷ [] }) shelf.contents;
}

-- A shelf after a stop of reading, which for a read fault blames its file.
abbrev pub shelf_after : {R : Type 0} → (FileId → List ℕ) → Stop → ShelfModel R → ShelfModel R
shelf_after name (ReadFault file) shelf = blaming (name file) shelf
shelf_after name _ shelf = shelf

-- A read fault is counted and blames its file. Nothing else changes the shelf.
abbrev pub BlamesFile : {R A : Type 0} → (FileId → List ℕ) → ShelfModel R → ShelfModel R → Result A Stop → Type 0
BlamesFile name old new (Ok x) = new ≡ old
BlamesFile name old new (Err stop) = new ≡ shelf_after name stop old

-- A read fault is counted and blames a name. Nothing else changes the shelf.
abbrev pub ReadsShelf : {R A : Type 0} → ShelfModel R → ShelfModel R → Result A Stop → Type 0
ReadsShelf old new result = (name : FileId → List ℕ) × BlamesFile name old new result

-- The model of the counters.
abbrev pub counters_of : TakenCounters → TakenCountersModel
counters_of limits = record { lines = limits.lines; bytes = limits.bytes }
