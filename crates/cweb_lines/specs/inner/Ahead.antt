-- Lines in the buffer, and the lookahead.
use Rattle.std.specs.Prelude.{◌≡◌, ℕ, ◌+◌, ◌≤◌, ◌<◌, List, length, slice_range, Option, None, Some, ◌-◌, [], ◌∷◌, ◌++◌}
use Rattle.cweb_lines.specs.Lines.{Line}
use Rattle.cweb_lines.specs.surface.MergeProgress.{EmitsLines, so_far_of, events_to_come, MergeState}
use Rattle.cweb_lines.specs.surface.MergerCalls.{AreReadersKnown, Grows}
use Rattle.cweb_lines.specs.inner.Passing.{buffer_of, top_of, ComesNext, EmitsBufferedLines, IsStretchAt, lines_next}
use Rattle.cweb_lines.specs.inner.Passing.{with_newlines}
use Rattle.cweb_lines.specs.declared.passing.line_span.LineSpan.{LineSpan}
use Rattle.cweb_lines.specs.declared.passing.stretch.Stretch.{Stretch}
use Rattle.cweb_lines.specs.surface.OpenSources.{OpenSource, number_or_zero}
use Rattle.cweb_lines.specs.Change.{WaitingEntry}
use Rattle.cweb_lines.specs.surface.OpenedFileNames.{IsOneLine, opened_file_names}
use Rattle.cweb_lines.specs.inner.OpenSources.{files_up_to}
use Rattle.cweb_lines.specs.declared.counters.TakenCounters.{TakenCounters}
use Rattle.cweb_lines.specs.declared.limits.TheConstants.{LINES, BYTES}
use Rattle.cweb_lines.specs.declared.merger.ahead.Ahead.{Ahead}

-- The bytes of a line in the buffer.
abbrev pub span_bytes : {R : Type 0} → MergeState R → LineSpan → List ℕ
span_bytes run line = slice_range (buffer_of (top_of run.stack)) line.from line.to

pub record IsSpanIn {R : Type 0} (run : MergeState R) (line : LineSpan) : Type 0 where
  pub some : 0 < run.stack.depth
  pub order : line.from ≤ line.to
  pub within : line.to ≤ length (buffer_of (top_of run.stack))

-- The place and range of a source's next line.
abbrev pub line_span_at : {R : Type 0} → Option (OpenSource R) → Stretch → Option LineSpan
line_span_at None s = None
line_span_at (Some text) s = Some (record {
  place = record { file = text.file; line = text.line + 1 };
  from = text.source.start;
  to = s.text;
})

-- Lines were borrowed one after another: they are emitted, there is no stop, and readers keep their names.
pub record BorrowsLines {R : Type 0} (old new : MergeState R) : Type 0 where
  pub yields : (texts : List ℕ → Option (List ℕ)) (left : R → List ℕ) → (lines : List Line)
      × EmitsLines lines (so_far_of old) (so_far_of new) (events_to_come texts left old) (events_to_come texts left new)
  pub grows : Grows (so_far_of old) (so_far_of new)
  pub stopped : new.stopped ≡ old.stopped
  pub readers : (opened_as : R → List ℕ) → AreReadersKnown opened_as old → AreReadersKnown opened_as new

-- The whole buffer of a source is within the limits.
pub record FitsLimits {R : Type 0} (limits : TakenCounters) (text : OpenSource R) : Type 0 where
  pub few : limits.lines + (text.source.end - text.source.start) ≤ LINES
  pub small : limits.bytes + (text.source.end - text.source.start) ≤ BYTES

abbrev pub FitsLimitsAt : {R : Type 0} → TakenCounters → Option (OpenSource R) → Type 0
FitsLimitsAt limits None = ⊥
FitsLimitsAt limits (Some text) = FitsLimits limits text

-- One line of a source after `before`: its place, its range in the buffer, and the stretch of all of them.
pub record LooksAheadIn {R : Type 0} (entry : Option WaitingEntry) (slot : Option (OpenSource R))
    (before : List (List ℕ))
    (ahead : Ahead) : Type 0 where
  pub raw : List ℕ
  pub in_place : IsStretchAt entry slot ahead.stretch (before ++ raw ∷ [])
  pub emitted : lines_next slot (before ++ raw ∷ []) ≡ lines_next slot before ++ record {
    bytes = slice_range (buffer_of slot) ahead.line.from ahead.line.to;
    place = ahead.line.place;
  } ∷ []
  pub order : ahead.line.from ≤ ahead.line.to
  pub within : ahead.line.to ≤ length (buffer_of slot)
  pub line : IsOneLine (slice_range (buffer_of slot) ahead.line.from ahead.line.to)
  pub file : ahead.line.place.file.0 < number_or_zero files_up_to slot
  pub size : length (slice_range (buffer_of slot) ahead.line.from ahead.line.to) ≤ length raw
  pub count : ahead.stretch.lines ≡ length before + 1
  pub ordered : ahead.stretch.text < ahead.stretch.end

-- These lines and one more come next. The last one has this place and range.
pub record LooksAhead {R : Type 0} (run : MergeState R) (before : List (List ℕ)) (ahead : Ahead) : Type 0 where
  pub raw : List ℕ
  pub comes : ComesNext run ahead.stretch (before ++ raw ∷ [])
  pub emitted : lines_next (top_of run.stack) (before ++ raw ∷ []) ≡ lines_next (top_of run.stack) before ++ record {
    bytes = span_bytes run ahead.line;
    place = ahead.line.place;
  } ∷ []
  pub inside : IsSpanIn run ahead.line
  pub line : IsOneLine (span_bytes run ahead.line)
  pub known : ahead.line.place.file.0 < length (opened_file_names run.names)
  pub size : length (span_bytes run ahead.line) ≤ length raw
  pub count : ahead.stretch.lines ≡ length before + 1
  pub ordered : ahead.stretch.text < ahead.stretch.end

-- Some lines come next, the last one is in the buffer, and the whole buffer is within the limits.
pub record IsAhead {R : Type 0} (run : MergeState R) (ahead : Ahead) : Type 0 where
  pub lines : List (List ℕ)
  pub comes : ComesNext run ahead.stretch lines
  pub inside : IsSpanIn run ahead.line
  pub ordered : ahead.stretch.text < ahead.stretch.end
  pub fits : FitsLimitsAt run.limits (top_of run.stack)

-- The next lines were taken and counted.
pub record TakesLines {R : Type 0} (lines : List (List ℕ)) (old new : MergeState R) : Type 0 where
  pub emitted : EmitsBufferedLines old new (lines_next (top_of old.stack) lines)
  pub bytes : new.limits.bytes ≡ old.limits.bytes + length (with_newlines lines)
  pub count : new.limits.lines ≡ old.limits.lines + length lines
  pub borrows : BorrowsLines old new
