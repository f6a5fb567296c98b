-- The events of a merge by kind, the limits on the lines that it takes, and the written lines.
use Rattle.std.specs.Prelude.{◌≡◌, ℕ, ◌+◌, ◌≤◌, List, [], ◌∷◌, ◌++◌, length}
use Rattle.cweb_lines.specs.OpenSources.{TakenCountersModel, RefusesLine}
use Rattle.cweb_lines.specs.declared.stop.Stop.{Stop}
use Rattle.cweb_lines.specs.Lines.{Line, SourceLine}
pub use Rattle.cweb_lines.specs.declared.fault.SourceFault.{SourceFault}
pub use Rattle.cweb_lines.specs.declared.limits.TheConstants.{LINES, BYTES, LINE_LENGTH, OPEN_FILES}

-- An event: a line is taken from its file, a merged line is emitted, a fault is reported, or a file is opened.
pub data Event : Type 0 where
  took : SourceLine → Event
  emitted : Line → Event
  fault : SourceFault → Event
  opening : List ℕ → Event

-- The lines that are emitted.
abbrev pub emitted_lines : List Event → List Line
emitted_lines [] = []
emitted_lines (emitted line ∷ events) = line ∷ emitted_lines events
emitted_lines (event ∷ events) = emitted_lines events

-- The faults that are reported.
abbrev pub reported_faults : List Event → List SourceFault
reported_faults [] = []
reported_faults (fault f ∷ events) = f ∷ reported_faults events
reported_faults (event ∷ events) = reported_faults events

-- The names of the files that are opened.
abbrev pub openings : List Event → List (List ℕ)
openings [] = []
openings (opening name ∷ events) = name ∷ openings events
openings (event ∷ events) = openings events

-- The lines that are taken from files.
abbrev pub taken_lines : List Event → List SourceLine
taken_lines [] = []
taken_lines (took line ∷ events) = line ∷ taken_lines events
taken_lines (event ∷ events) = taken_lines events

-- The number of bytes of lines, newlines included.
abbrev pub size_of_lines : List SourceLine → ℕ
size_of_lines [] = 0
size_of_lines (line ∷ lines) = line.size + size_of_lines lines

-- No line exceeds the maximum length.
abbrev pub AreShort : List SourceLine → Type 0
AreShort [] = Unit {0}
AreShort (line ∷ lines) = (line.length ≤ LINE_LENGTH) × AreShort lines

-- The lines are within the limits.
pub record IsWithinLimits (lines : List SourceLine) : Type 0 where
  pub short : AreShort lines
  pub few : length lines ≤ LINES
  pub small : size_of_lines lines ≤ BYTES

-- The number of lines, and of their bytes.
abbrev pub counts_of : List SourceLine → TakenCountersModel
counts_of lines = record { lines = length lines; bytes = size_of_lines lines }

-- After the events `earlier` the next line breaks a limit, the first to do so.
pub record BreaksLimit (stop : Stop) (earlier later : List Event) : Type 0 where
  pub line : SourceLine
  pub more : List Event
  pub next : later ≡ took line ∷ more
  pub within : IsWithinLimits (taken_lines earlier)
  pub why : RefusesLine stop (counts_of (taken_lines earlier)) line

-- The lines as they are written, each with a newline.
abbrev pub written_lines : List Line → List ℕ
written_lines [] = []
written_lines (line ∷ lines) = line.bytes ++ 10 ∷ written_lines lines
