-- What open sources have left, and how taking a line changes that.
use Rattle.std.specs.Prelude.{◌≡◌, ℕ, suc, ◌+◌, ◌-◌, ◌≤◌, ◌<◌, max, List, [], ◌∷◌, ◌++◌, Option, None, Some, Result, Ok}
use Rattle.std.specs.Prelude.{Err, slice_index_or}
use Rattle.cweb_files.specs.declared.place.FileId.{FileId}
use Rattle.cweb_lines.specs.Lines.{Place, SourceLine, lines_in, RawLine, Thing, raw, raws}
use Rattle.cweb_lines.specs.declared.limits.TheConstants.{LINE_LENGTH}
use Rattle.cweb_lines.specs.declared.source.LineFault.{LineFault}
use Rattle.cweb_lines.specs.declared.source.LineFault.TheVariants.{Read, TooLong, Memory as NoMemory}
use Rattle.cweb_lines.specs.declared.source.LineTermination.{LineTermination}
use Rattle.cweb_lines.specs.declared.source.LineTermination.TheVariants.{Full}
use Rattle.cweb_lines.specs.surface.OpenSources.{Stack, Stop, buffered, number_or_zero, things_at, things_over}
use Rattle.cweb_lines.specs.surface.OpenSources.{things_above, files_named, ReadFault, LineTooLong, Memory, OpenSource}
use Rattle.cweb_lines.specs.declared.open_source.LineAt.{LineAt}
use Rattle.cweb_lines.specs.surface.OpenedFileNames.{HasNoNewline}
use Rattle.cweb_lines.specs.OpenSources.{TakenCountersModel, RefusesLine}

unfoldable pub maximum_of : {R : Type 0} → (OpenSource R → ℕ) → List (Option (OpenSource R)) → ℕ
maximum_of number [] = 0
maximum_of number (text ∷ texts) = max (number_or_zero number text) (maximum_of number texts)

abbrev pub line_number : {R : Type 0} → OpenSource R → ℕ
line_number text = text.line

abbrev pub line_number_at : {R : Type 0} → ℕ → List (Option (OpenSource R)) → ℕ
line_number_at place texts = number_or_zero line_number (slice_index_or texts place None)

-- The number of files that are opened at least once this one is.
abbrev pub files_up_to : {R : Type 0} → OpenSource R → ℕ
files_up_to text = text.file.0 + 1

-- A line that was taken: it is short enough and counted.
pub record CountsLine (bytes : List ℕ) (place : Place) (before after : TakenCountersModel) : Type 0 where
  pub line : SourceLine
  pub is : line.line ≡ record { bytes = bytes; place = place }
  pub short : line.length ≤ LINE_LENGTH
  pub lines : after.lines ≡ before.lines + 1
  pub bytes_are : after.bytes ≡ before.bytes + line.size

-- Takes the first of the lines that are left, or there is none.
abbrev pub TakesNextLine : List SourceLine → Option LineAt → List ℕ → List SourceLine → TakenCountersModel
    → TakenCountersModel → Type 0
TakesNextLine old None bytes new before after = (old ≡ []) × (new ≡ [])
TakesNextLine old (Some at) bytes new before after = (took : CountsLine bytes at.place before after)
    × (old ≡ took.line ∷ new)

-- The first line causes the stop.
pub record FirstStops (stop : Stop) (count : TakenCountersModel) (lines : List SourceLine) : Type 0 where
  pub line : SourceLine
  pub rest : List SourceLine
  pub first : lines ≡ line ∷ rest
  pub why : RefusesLine stop count line

-- By how much a source isn't deeper than its index.
abbrev pub gap_at : {R : Type 0} → ℕ → Option (OpenSource R) → ℕ
gap_at place None = 0
gap_at place (Some text) = place + 1 - text.depth

unfoldable pub gaps_from : {R : Type 0} → ℕ → List (Option (OpenSource R)) → ℕ
gaps_from place [] = 0
gaps_from place (slot ∷ texts) = gap_at place slot + gaps_from (suc place) texts

abbrev pub DeepAt : {R : Type 0} → ℕ → Option (OpenSource R) → Type 0
DeepAt place slot = gap_at place slot ≡ 0

-- Each open source is deeper than its index.
abbrev pub AreDeep : {R : Type 0} → List (Option (OpenSource R)) → Type 0
AreDeep texts = gaps_from 0 texts ≡ 0

abbrev pub raw_thing : LineAt → SourceLine → Thing
raw_thing at line = raw (record { source = line; depth = at.depth; may_match = at.may_match })

-- Takes the first thing, or changes nothing.
abbrev pub TakesFirst : List Thing → Option LineAt → List ℕ → List Thing → TakenCountersModel → TakenCountersModel
    → Type 0
TakesFirst old None bytes new before after = old ≡ new
TakesFirst old (Some at) bytes new before after = (took : CountsLine bytes at.place before after)
    × (old ≡ raw_thing at took.line ∷ new)

-- Takes a line of the deepest source, or closes that source at its end.
abbrev pub TakesTop : {R : Type 0} → (R → List ℕ) → Stack R → Stack R → Option LineAt → List ℕ → TakenCountersModel
    → TakenCountersModel → Type 0
TakesTop left old new at bytes before after = (low : ℕ) → low < old.depth → (rest : List Thing) →
    TakesFirst (things_above left low old rest) at bytes (things_above left low new rest) before after

-- Takes the next line of the sources from an index on, or all of them have ended.
abbrev pub TakesAbove : {R : Type 0} → (R → List ℕ) → ℕ → Stack R → Stack R → Option LineAt → List ℕ
    → TakenCountersModel → TakenCountersModel → Type 0
TakesAbove left low old new at bytes before after = (rest : List Thing) →
    TakesFirst (things_above left low old rest) at bytes (things_above left low new rest) before after

-- The sources below an index are unchanged.
abbrev pub StaysBelow : {R : Type 0} → ℕ → List (Option (OpenSource R)) → List (Option (OpenSource R)) → Type 0
StaysBelow {R = R} low old new = (left : R → List ℕ) (n : ℕ) → n ≤ low → (rest : List Thing) →
    things_over left 0 n new rest ≡ things_over left 0 n old rest

-- The first thing is the line that causes the stop.
pub record TopStops (stop : Stop) (count : TakenCountersModel) (things : List Thing) : Type 0 where
  pub raw_line : RawLine
  pub rest : List Thing
  pub first : things ≡ raw raw_line ∷ rest
  pub why : RefusesLine stop count raw_line.source

-- The next line of the sources from an index on causes the stop.
abbrev pub StopsAbove : {R : Type 0} → (R → List ℕ) → ℕ → Stack R → Stop → TakenCountersModel → Type 0
StopsAbove left low stack stop count = (rest : List Thing) → TopStops stop count (things_above left low stack rest)

abbrev pub StopsTop : {R : Type 0} → (R → List ℕ) → Stack R → Stop → TakenCountersModel → Type 0
StopsTop left stack stop count = (low : ℕ) → low < stack.depth → StopsAbove left low stack stop count

-- The lines of a source come first.
abbrev pub Pushes : {R : Type 0} → Stack R → Stack R → OpenSource R → Type 0
Pushes {R = R} old new text = (left : R → List ℕ) (low : ℕ) → low ≤ old.depth → (rest : List Thing) →
    things_above left low new rest ≡ things_at left (Some text) ++ things_above left low old rest

-- The lines of an included file come first. They are one deeper than the include line, and match as it does.
abbrev pub OpensSource : {R : Type 0} → Stack R → Stack R → R → ℕ → LineAt → Type 0
OpensSource {R = R} old new reader file at = (left : R → List ℕ) (low : ℕ) → low ≤ old.depth → (rest : List Thing)
    → things_above left low new rest ≡ raws (at.depth + 1) at.may_match (lines_in file (left reader))
    ++ things_above left low old rest

abbrev pub DepthAfter : ℕ → ℕ → Result (Option LineAt) Stop → Type 0
DepthAfter old new (Ok None) = new + 1 ≡ old
DepthAfter old new result = new ≡ old

-- A line that was taken is counted.
abbrev pub Counted : TakenCountersModel → TakenCountersModel → Result (Option LineAt) Stop → Type 0
Counted old new (Ok (Some at)) = new.lines ≡ old.lines + 1
Counted old new result = (new.lines ≡ old.lines) × (new.bytes ≡ old.bytes)

abbrev pub stop_for : LineFault → FileId → Stop
stop_for Read file = ReadFault file
stop_for TooLong file = LineTooLong file
stop_for NoMemory file = Memory

-- A read fails only if no whole line of its file, the slot's source, is buffered.
abbrev pub NeedsRead : {R : Type 0} → Option (OpenSource R) → Stop → Type 0
NeedsRead (Some text) (ReadFault file) = (text.file ≡ file) × HasNoNewline (buffered text.source)
NeedsRead None (ReadFault file) = ⊥
NeedsRead slot _ = Unit {0}

abbrev pub newline_bytes : LineTermination → ℕ
newline_bytes Full = 1
newline_bytes _ = 0

-- If the stop has a `FileId`, it is this one.
abbrev pub NamesFile : FileId → Stop → Type 0
NamesFile file (ReadFault named) = named ≡ file
NamesFile file (LineTooLong named) = named ≡ file
NamesFile file _ = Unit {0}

-- File numbers in the result are below this count.
abbrev pub NamesFiles : ℕ → Result (Option LineAt) Stop → Type 0
NamesFiles files (Ok None) = Unit {0}
NamesFiles files (Ok (Some at)) = at.place.file.0 < files
NamesFiles files (Err stop) = files_named stop ≤ files
