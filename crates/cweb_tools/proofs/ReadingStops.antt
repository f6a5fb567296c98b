-- The devices after a stop of reading, and its cause.
use Rattle.cweb_tools.proofs.Common.{◌≤◌, ◌≡◌, ◌+◌, ℕ, List, [], ◌∷◌, ◌++◌, length, length-append, refl, append-nil, arith, get_or-append, FileId, SourceLine, Event, took, SoFar, BreaksLimit, counts_of, begun_with, StopsFor, StopsReading, files_named, openings, IsWithinLimits, LINE_LENGTH, LINES, BYTES, Stop, ReadFault, LineTooLong, TooMuchText, Memory, LogFault, StopsAfter, file_name_at, stop_line, subject, Logs, SinkModel, Devices, Breaks, FailsReading, Line, ending, IsOfFile, reads, LogsEnding}
use Rattle.cweb_lines.specs.OpenSources.{RefusesLine}
use Rattle.cweb_tools.proofs.Limits.{CutAt, NextBreaks, cut_at_limit}
use Rattle.cweb_tools.proofs.Broken.{shelf_after}

-- The file of a stop is among those that the whole merge opens.
of_file : (files opened rest : List (List ℕ)) (file : ℕ) → files ≡ opened ++ rest
    → file + 1 ≤ length opened → IsOfFile files file (file_name_at opened file)
of_file files opened rest file are known = grind (arith, length-append, get_or-append)

-- The devices after a stop of reading with this name.
abbrev pub left_by : Stop → List ℕ → Devices → Devices
left_by stop about now = record now { shelf = shelf_after stop about now.shelf }

-- A stop of reading, whatever was read before.
pub fails_so : (stop : Stop) (files opened rest : List (List ℕ)) (earlier later : List Event) (now : Devices)
    → StopsReading stop → files ≡ opened ++ rest → files_named stop ≤ length opened → NextBreaks stop earlier later
    → FailsReading files earlier later (ending stop (subject opened stop)) now (left_by stop (subject opened stop) now)
fails_so (ReadFault file) files opened rest earlier later now kind names known next =
    (of_file files opened rest file.0 names known, refl)
fails_so (LineTooLong file) files opened rest earlier later now kind names known next = (
  of_file files opened rest file.0 names known,
  next,
  refl,
)
fails_so TooMuchText files opened rest earlier later now kind names known next = (next, refl)
fails_so Memory files opened rest earlier later now kind names known next = refl
fails_so stop files opened rest earlier later now kind names known next = absurd kind

-- Where reading ended.
cut_so : (stop : Stop) {first : List (List ℕ)} {old : SoFar} (new : SoFar) (all : List Event) → old ≡ begun_with first
    → new.count.lines ≤ LINES → new.count.bytes ≤ BYTES → StopsReading stop
    → StopsFor (StopsAfter stop old new all) stop → (lines : List Line) × CutAt stop lines all
cut_so (ReadFault file) new all began few small kind why = grind arith
cut_so (LineTooLong file) new all began few small kind why = (why.lines, cut_at_limit began few small why.stops)
cut_so TooMuchText new all began few small kind why = (why.lines, cut_at_limit began few small why.stops)
cut_so Memory new all began few small kind why = grind arith
cut_so stop new all began few small kind why = absurd kind

-- Why reading ended early.
pub reads_broke : (stop : Stop) (first opened rest : List (List ℕ)) (old new : SoFar) (all : List Event)
    (now : Devices) → old ≡ begun_with first → new.count.lines ≤ LINES → new.count.bytes ≤ BYTES → StopsReading stop
    → StopsFor (StopsAfter stop old new all) stop → first ++ openings all ≡ opened ++ rest
    → files_named stop ≤ length opened → Breaks
    (reads (first ++ openings all) all) (ending stop (subject opened stop)) now (left_by stop (subject opened stop) now)
reads_broke stop first opened rest old new all now began few small kind why names known =
    grind (arith, cut_so, fails_so)

-- A line that is too long, and a line beyond the total limit.
abbrev line_of : FileId → ℕ → ℕ → SourceLine
line_of file length size =
    record { line = record { bytes = []; place = record { file = file; line = 0 } }; length = length; size = size }

-- Events that an unobservable shelf may have had before this stop.
abbrev pub read_by : Stop → List Event
read_by (LineTooLong file) = took (line_of file (LINE_LENGTH + 1) 0) ∷ []
read_by TooMuchText = took (line_of (record { 0 = 0 }) 0 (BYTES + 1)) ∷ []
read_by stop = []

pub nothing_passes : IsWithinLimits []
nothing_passes = record { short = tt; few = omega arith; small = omega arith }

-- The first line breaks a limit.
breaks_first : (stop : Stop) (line : SourceLine) → RefusesLine stop (counts_of []) line
    → BreaksLimit stop [] (took line ∷ [])
breaks_first stop line why = record { line = line; more = []; next = refl; within = nothing_passes; why = why }

-- Nothing was read before the stop.
pub cut_first : (stop : Stop) → CutAt stop [] (read_by stop)
cut_first (LineTooLong file) = grind (arith, breaks_first)
cut_first TooMuchText = grind (arith, breaks_first)
cut_first stop = record { earlier = []; later = []; whole = refl; emits = refl; next = tt }

pub silent_broke : (stop : Stop) (files : List (List ℕ)) (now : Devices) → StopsReading stop
    → files_named stop ≤ length files
    → Breaks (reads files (read_by stop)) (ending stop (subject files stop)) now (left_by stop (subject files stop) now)
silent_broke stop files now kind known = grind (arith, cut_first, fails_so, append-nil)

pub reading_ends : (stop : Stop) (about : List ℕ) {l l' : SinkModel} → StopsReading stop
    → Logs (stop_line stop about) l l' → LogsEnding (ending stop about) l l'
reading_ends LogFault about kind logs = absurd kind
reading_ends stop about kind logs = logs
