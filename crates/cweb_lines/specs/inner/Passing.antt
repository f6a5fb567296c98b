-- Lines that pass through: what they are in the buffer, and how they are taken and appended.
use Rattle.std.specs.Prelude.{◌≡◌, ℕ, ◌+◌, ◌-◌, ◌<◌, ◌≤◌, Bool, false, List, [], ◌∷◌, ◌++◌, length, map, slice_range}
use Rattle.std.specs.Prelude.{slice_index_or, Option, None, Some, take}
use Rattle.std.specs.List.{AllByRecursion}
use Rattle.cweb_lines.specs.Change.{WaitingEntry}
use Rattle.cweb_lines.specs.Include.{is_include_line}
use Rattle.cweb_lines.specs.Lines.{Line, SourceLine, CutLine, numbered_lines, trimmed, Thing, raws}
use Rattle.cweb_lines.specs.surface.OpenedFileNames.{HasNoNewline}
use Rattle.cweb_lines.specs.Events.{written_lines, LINES, BYTES, LINE_LENGTH}
use Rattle.cweb_lines.specs.surface.MergeProgress.{EmitsLines, so_far_of, events_to_come, pending_of, MergeState}
use Rattle.cweb_lines.specs.surface.OpenSources.{AreReadersNamed, IsReaderNamed, lines_at, matches_at, number_or_zero}
use Rattle.cweb_lines.specs.surface.OpenSources.{source_depth, things_above, OpenSource, Stack}
use Rattle.cweb_lines.specs.surface.MergerCalls.{AreReadersKnown}
use Rattle.cweb_lines.specs.inner.Stages.{IsSettled, begun_by, floor_of}
use Rattle.cweb_lines.specs.inner.OpenSources.{AreDeep, DeepAt, StaysBelow, files_up_to, maximum_of}
use Rattle.cweb_lines.specs.declared.counters.TakenCounters.{TakenCounters}
use Rattle.cweb_lines.specs.declared.passing.stretch.Stretch.{Stretch}

-- A raw line passes through: it is no include line and doesn't begin the entry that waits.
pub record PassesThrough (entry : Option WaitingEntry) (may_match : Bool) (raw : List ℕ) : Type 0 where
  pub clean : HasNoNewline raw
  pub short : length raw ≤ LINE_LENGTH
  pub plain : is_include_line (trimmed raw) ≡ false
  pub unbegun : begun_by entry may_match (trimmed raw) ≡ None

abbrev pub with_newlines : List (List ℕ) → List ℕ
with_newlines [] = []
with_newlines (line ∷ lines) = line ++ 10 ∷ with_newlines lines

abbrev pub trimmed_with_newlines : List (List ℕ) → List ℕ
trimmed_with_newlines lines = with_newlines (map trimmed lines)

abbrev pub all_but_last : {A : Type 0} → List A → List A
all_but_last list = take (length list - 1) list

-- If there are several lines, all but the last have fewer than `room` bytes, newlines included.
abbrev pub OnlyLastExceeds : ℕ → List (List ℕ) → Type 0
OnlyLastExceeds room raw_lines = 1 < length raw_lines → length (with_newlines (all_but_last raw_lines)) < room

-- Adjacent lines in the buffer that pass through. Each may have trailing blanks, so `s.text` says nothing here.
pub record IsRun (entry : Option WaitingEntry) (may_match : Bool) (buffer : List ℕ) (start : ℕ) (s : Stretch)
    (raw_lines : List (List ℕ)) : Type 0 where
  pub passing : AllByRecursion (PassesThrough entry may_match) raw_lines
  pub lines : s.lines ≡ length raw_lines
  pub in_place : slice_range buffer start s.end ≡ with_newlines raw_lines
  pub size : start + length (with_newlines raw_lines) ≡ s.end

-- Adjacent lines in the buffer that pass through. All but the last are printed as they are, and the last one trimmed.
pub record IsStretch (entry : Option WaitingEntry) (may_match : Bool) (buffer : List ℕ) (start : ℕ) (s : Stretch)
    (raw_lines : List (List ℕ)) : Type 0 where
  pub passing : AllByRecursion (PassesThrough entry may_match) raw_lines
  pub lines : s.lines ≡ length raw_lines
  pub in_place : slice_range buffer start s.end ≡ with_newlines raw_lines
  pub size : start + length (with_newlines raw_lines) ≡ s.end
  pub text : slice_range buffer start s.text ++ 10 ∷ [] ≡ trimmed_with_newlines raw_lines
  pub whole : s.text + 1 ≡ s.end → slice_range buffer start s.end ≡ trimmed_with_newlines raw_lines
  pub forth : start ≤ s.text
  pub before : s.text < s.end

-- Some such lines up to an end.
abbrev pub Reaches : Option WaitingEntry → Bool → List ℕ → ℕ → ℕ → Stretch → Type 0
Reaches entry may_match buffer start end s = (raw_lines : List (List ℕ))
    × IsStretch entry may_match buffer start s raw_lines
    × (s.end ≤ end)

-- The next lines in the buffer of a source.
pub record IsStretchOf {R : Type 0} (entry : Option WaitingEntry) (text : OpenSource R) (s : Stretch)
    (raw_lines : List (List ℕ)) : Type 0 where
  pub is : IsStretch entry text.may_match text.source.buffer.items text.source.start s raw_lines
  pub within : s.end ≤ text.source.end

abbrev pub IsStretchAt : {R : Type 0} → Option WaitingEntry → Option (OpenSource R) → Stretch → List (List ℕ) → Type 0
IsStretchAt entry None s raw_lines = ⊥
IsStretchAt entry (Some text) s raw_lines = IsStretchOf entry text s raw_lines

-- The next lines in the buffer of a source, however they are printed.
pub record IsRunOf {R : Type 0} (entry : Option WaitingEntry) (text : OpenSource R) (s : Stretch)
    (raw_lines : List (List ℕ)) : Type 0 where
  pub is : IsRun entry text.may_match text.source.buffer.items text.source.start s raw_lines
  pub within : s.end ≤ text.source.end

abbrev pub IsRunAt : {R : Type 0} → Option WaitingEntry → Option (OpenSource R) → Stretch → List (List ℕ) → Type 0
IsRunAt entry None s raw_lines = ⊥
IsRunAt entry (Some text) s raw_lines = IsRunOf entry text s raw_lines

-- The lines are within the limits.
pub record HasRoomFor (limits : TakenCounters) (raw_lines : List (List ℕ)) : Type 0 where
  pub few : limits.lines + length raw_lines ≤ LINES
  pub small : limits.bytes + length (with_newlines raw_lines) ≤ BYTES

-- The deepest source.
abbrev pub top_of : {R : Type 0} → Stack R → Option (OpenSource R)
top_of stack = slice_index_or stack.texts (stack.depth - 1) None

-- The bytes that are printed of a source's next lines, without the last newline.
abbrev pub stretch_bytes : {R : Type 0} → Option (OpenSource R) → Stretch → List ℕ
stretch_bytes None s = []
stretch_bytes (Some text) s = slice_range text.source.buffer.items text.source.start s.text

-- No entry is sought, and these are the next lines of the deepest source.
pub record ComesNext {R : Type 0} (run : MergeState R) (s : Stretch) (raw_lines : List (List ℕ)) : Type 0 where
  pub settled : IsSettled run.stage
  pub above : floor_of run.stage < run.stack.depth
  pub in_place : IsStretchAt (pending_of run) (top_of run.stack) s raw_lines
  pub room : HasRoomFor run.limits raw_lines

abbrev pub line_with_newline : List ℕ → CutLine
line_with_newline raw = record { bytes = raw; size = length raw + 1 }

-- The next lines of a source, as they are taken.
abbrev pub sources_next : {R : Type 0} → Option (OpenSource R) → List (List ℕ) → List SourceLine
sources_next None lines = []
sources_next (Some text) lines = numbered_lines text.file.0 (text.line + 1) (map line_with_newline lines)

-- The next lines of a source, as they are emitted.
abbrev pub lines_next : {R : Type 0} → Option (OpenSource R) → List (List ℕ) → List Line
lines_next slot lines = map (λ source. source.line) (sources_next slot lines)

abbrev pub buffer_of : {R : Type 0} → Option (OpenSource R) → List ℕ
buffer_of None = []
buffer_of (Some text) = text.source.buffer.items

-- The file, reader, depth, matching and buffer of a source are unchanged.
pub record KeepsLevel {R : Type 0} (old new : Option (OpenSource R)) : Type 0 where
  pub file : number_or_zero files_up_to new ≡ number_or_zero files_up_to old
  pub depth : number_or_zero source_depth new ≡ number_or_zero source_depth old
  pub may_match : matches_at new ≡ matches_at old
  pub deep : (place : ℕ) → DeepAt place old → DeepAt place new
  pub named : (opened_as : R → List ℕ) (names : List (List ℕ)) → IsReaderNamed opened_as names old
      → IsReaderNamed opened_as names new
  pub buffer : buffer_of new ≡ buffer_of old

-- These lines are taken from a slot's source, and counted.
pub record PassesSlot {R : Type 0} (old new : Option (OpenSource R)) (before after : TakenCounters)
    (lines : List (List ℕ)) : Type 0 where
  pub takes : (left : R → List ℕ) → lines_at left old ≡ sources_next old lines ++ lines_at left new
  pub few : after.lines ≡ before.lines + length lines
  pub bytes : after.bytes ≡ before.bytes + length (with_newlines lines)

-- These lines are taken from the deepest source, and counted.
pub record PassesTop {R : Type 0} (old new : Stack R) (before after : TakenCounters)
    (lines : List (List ℕ)) : Type 0 where
  pub takes : (left : R → List ℕ) (low : ℕ) → low < old.depth → (rest : List Thing) →
      things_above left low old rest
      ≡ raws (number_or_zero source_depth (top_of old)) (matches_at (top_of old)) (sources_next (top_of old) lines)
      ++ things_above left low new rest
  pub few : after.lines ≡ before.lines + length lines
  pub bytes : after.bytes ≡ before.bytes + length (with_newlines lines)

-- The deepest source keeps its level, and the others are unchanged.
pub record KeepsTop {R : Type 0} (old new : Stack R) : Type 0 where
  pub depth : new.depth ≡ old.depth
  pub below : StaysBelow (old.depth - 1) old.texts new.texts
  pub named : (opened_as : R → List ℕ) (names : List (List ℕ)) → AreReadersNamed opened_as names old.texts
      → AreReadersNamed opened_as names new.texts
  pub files : maximum_of files_up_to new.texts ≤ maximum_of files_up_to old.texts
  pub deep : AreDeep old.texts → AreDeep new.texts
  pub buffer : buffer_of (top_of new) ≡ buffer_of (top_of old)

-- These lines are emitted. No file is opened, and the buffer is unchanged.
pub record EmitsBufferedLines {R : Type 0} (old new : MergeState R) (lines : List Line) : Type 0 where
  pub yields : (texts : List ℕ → Option (List ℕ)) (left : R → List ℕ) →
      EmitsLines lines (so_far_of old) (so_far_of new) (events_to_come texts left old) (events_to_come texts left new)
  pub stopped : new.stopped ≡ old.stopped
  pub names : new.names ≡ old.names
  pub counted : new.limits.lines ≡ old.limits.lines + length lines
  pub readers : (opened_as : R → List ℕ) → AreReadersKnown opened_as old → AreReadersKnown opened_as new

-- Lines are emitted and appended to a buffer. Each begins before the buffer has `room` bytes. No file is opened.
pub record AppendsPassedLines {R : Type 0} (room : ℕ) (old new : MergeState R) (buffer more : List ℕ) : Type 0 where
  pub lines : List Line
  pub yields : (texts : List ℕ → Option (List ℕ)) (left : R → List ℕ) →
      EmitsLines lines (so_far_of old) (so_far_of new) (events_to_come texts left old) (events_to_come texts left new)
  pub buffered : more ≡ buffer ++ written_lines lines
  pub within : 0 < length lines → length buffer + length (written_lines (all_but_last lines)) < room
  pub stopped : new.stopped ≡ old.stopped
  pub names : new.names ≡ old.names
  pub counted : old.limits.lines ≤ new.limits.lines
  pub readers : (opened_as : R → List ℕ) → AreReadersKnown opened_as old → AreReadersKnown opened_as new
