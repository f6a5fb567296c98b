-- What the calls of a step promise.
use Rattle.std.specs.Prelude.{Result, ◌≡◌, ◌≤◌, ◌<◌, ◌+◌, ℕ, List, length, None, Option, Ok, Err, IfOk, IfErr, OnOk}
use Rattle.std.specs.Prelude.{OnErr}
use Rattle.cweb_files.specs.Shelves.{Observed, ShelfModel, ShelfContents}
use Rattle.cweb_lines.specs.surface.OpenedFileNames.{opened_file_names}
use Rattle.cweb_lines.specs.surface.OpenSources.{BlamesFile, name_of_file, counters_of, StopsReading, files_named}
use Rattle.cweb_lines.specs.surface.OpenSources.{ReadsShelf, Stop, Memory}
use Rattle.cweb_lines.specs.declared.merge_state.MergeState.{MergeState}
use Rattle.cweb_lines.specs.surface.MergerCalls.{AreReadersKnown, StopsThere}
use Rattle.cweb_lines.specs.inner.LineCalls.{AnswersLine}
use Rattle.cweb_lines.specs.Lines.{Line, SourceLine}
use Rattle.cweb_lines.specs.Events.{Event}
use Rattle.cweb_lines.specs.inner.MergeProgress.{TurnLeaves, turns_left, EmitsAfterLine, events_after_line, turn_lines}
use Rattle.cweb_lines.specs.inner.Stages.{IsSettled, begun_by}
use Rattle.cweb_lines.specs.surface.MergeProgress.{EmitsLines, KeepsReported, events_to_come, pending_of, so_far_of}
use Rattle.cweb_lines.specs.declared.change.old_side.Replaced.{Replaced}
use Rattle.cweb_lines.specs.declared.step.Turn.{Turn}
use Rattle.cweb_lines.specs.declared.open_source.LineAt.{LineAt}

-- Only the faults change.
pub record OnlyReports {R : Type 0} (old new : MergeState R) : Type 0 where
  pub inputs : new.inputs ≡ old.inputs
  pub stack : new.stack ≡ old.stack
  pub change : new.change ≡ old.change
  pub stage : new.stage ≡ old.stage
  pub first : new.first ≡ old.first
  pub limits : new.limits ≡ old.limits
  pub names : new.names ≡ old.names
  pub stopped : new.stopped ≡ old.stopped

-- Only the sources and counters change.
pub record OnlyTakes {R : Type 0} (old new : MergeState R) : Type 0 where
  pub inputs : new.inputs ≡ old.inputs
  pub stage : new.stage ≡ old.stage
  pub first : new.first ≡ old.first
  pub faults : new.faults ≡ old.faults
  pub names : new.names ≡ old.names
  pub stopped : new.stopped ≡ old.stopped

-- Each reader is still opened under the name of its file, which a read fault blames.
abbrev pub KeepsReaders : {R A : Type 0} → ShelfModel R → ShelfModel R → MergeState R → MergeState R → Result A Stop
    → Type 0
KeepsReaders old new run run' result = Observed old (λ seen. AreReadersKnown seen.opened_as run
    → AreReadersKnown seen.opened_as run' × BlamesFile (name_of_file (opened_file_names run'.names)) old new result)

-- All events of a merger's state to come, by the contents of the shelf and what the readers have left.
abbrev pub coming : {R : Type 0} → ShelfContents R → MergeState R → List Event
coming seen run = events_to_come seen.texts seen.left run

-- A result without its value.
abbrev pub outcome : {A : Type 0} → Result A Stop → Result (Unit {0}) Stop
outcome (Ok x) = Ok tt
outcome (Err stop) = Err stop

-- Lines may be read. Readers keep the names of their files. A failed read is counted and blames its file. Reports only
-- grow.
pub record Reads {R : Type 0} (old new : ShelfModel R) (run run' : MergeState R)
    (result : Result (Unit {0}) Stop) : Type 0 where
  pub shelf : ReadsShelf old new result
  pub readers : KeepsReaders old new run run' result
  pub still : KeepsReported (so_far_of run) (so_far_of run')

-- A line of a file is taken and counted. Nothing is reported.
pub record TakesLine {R : Type 0} (old new : ShelfModel R) (run run' : MergeState R) (bytes : List ℕ)
    (result : Result (Option LineAt) Stop) : Type 0 where
  pub reads : Reads old new run run' (outcome result)
  pub answers : AnswersLine (length (opened_file_names run.names)) (counters_of run.limits) (counters_of run'.limits)
      bytes result
  pub only : OnlyTakes run run'

-- An old line drops the next raw line, which alone is counted.
pub record TakesAway {R : Type 0} (so_far : Replaced) (old new : MergeState R)
    (result : Result Replaced Stop) : Type 0 where
  pub more : old.limits.lines ≤ new.limits.lines
  pub longer : old.limits.bytes ≤ new.limits.bytes
  pub same : OnErr result (counters_of new.limits ≡ counters_of old.limits)
  pub shallow : new.stack.depth ≤ old.stack.depth
  pub ended : IfOk result (λ replaced. replaced.ended ≡ so_far.ended)
  -- no more lines differ than were taken
  pub few : IfOk result (λ replaced. replaced.unequal ≤ new.limits.lines)
  pub reading : IfErr result (λ stop. StopsReading stop)
  pub named : IfErr result (λ stop. files_named stop ≤ length (opened_file_names new.names))

-- Lines are taken, and faults are reported. No file is opened.
pub record GoesOn {R A : Type 0} (old new : MergeState R) (result : Result A Stop) : Type 0 where
  pub more : old.limits.lines ≤ new.limits.lines
  pub longer : old.limits.bytes ≤ new.limits.bytes
  pub shallow : new.stack.depth ≤ old.stack.depth
  pub inputs : new.inputs ≡ old.inputs
  pub names : new.names ≡ old.names
  pub stopped : new.stopped ≡ old.stopped
  pub reading : IfErr result (λ stop. StopsReading stop)
  pub named : IfErr result (λ stop. files_named stop ≤ length (opened_file_names new.names))

-- Lines of the change file alone are taken. If an entry or the end is found, fewer turns are left.
pub record OnlySeeks {R A : Type 0} (old new : MergeState R) (result : Result A Stop) : Type 0 where
  pub longer : old.limits.bytes ≤ new.limits.bytes
  pub counts : OnOk result ((old.limits.lines ≤ new.limits.lines)
      × (turns_left new.limits.lines new.stage < turns_left old.limits.lines old.stage))
  pub inputs : new.inputs ≡ old.inputs
  pub stack : new.stack ≡ old.stack
  pub names : new.names ≡ old.names
  pub stopped : new.stopped ≡ old.stopped
  pub reading : IfErr result (λ stop. StopsReading stop)
  pub named : IfErr result (λ stop. files_named stop ≤ length (opened_file_names new.names))

-- A source is opened, and nothing else but the names changes.
pub record OnlyOpens {R : Type 0} (old new : MergeState R) : Type 0 where
  pub inputs : new.inputs ≡ old.inputs
  pub change : new.change ≡ old.change
  pub stage : new.stage ≡ old.stage
  pub first : new.first ≡ old.first
  pub limits : new.limits ≡ old.limits
  pub faults : new.faults ≡ old.faults
  pub stopped : new.stopped ≡ old.stopped

-- An include line is obeyed, or a fault is reported. No line is taken. Only want of memory stops it, before any report.
pub record OnlyObeys {R A : Type 0} (old new : MergeState R) (result : Result A Stop) : Type 0 where
  pub limits : new.limits ≡ old.limits
  pub stage : new.stage ≡ old.stage
  pub stopped : new.stopped ≡ old.stopped
  pub more : length (opened_file_names old.names) ≤ length (opened_file_names new.names)
  pub same : OnErr result ((new.faults.items ≡ old.faults.items)
      × (opened_file_names new.names ≡ opened_file_names old.names))
  pub memory : IfErr result (λ stop. stop ≡ Memory)

-- A turn emits a counted line of an opened file, leaves fewer turns, or finds that nothing is left.
pub record Turns {R : Type 0} (old new : MergeState R) (bytes : List ℕ) (result : Result Turn Stop) : Type 0 where
  pub stopped : new.stopped ≡ old.stopped
  pub grows : length (opened_file_names old.names) ≤ length (opened_file_names new.names)
  pub leaves : IfOk result (λ turn. TurnLeaves turn bytes old new)
  pub named : IfErr result (λ stop. files_named stop ≤ length (opened_file_names new.names))
  pub reading : IfErr result (λ stop. StopsReading stop)

-- A line that was taken begins no change, and its file was opened. It is as deep as the stack of open sources, which
-- may hold one more file.
pub record IsPlainLine {R : Type 0} (run : MergeState R) (bytes : List ℕ) (at : LineAt) : Type 0 where
  pub names : length (opened_file_names run.names) < run.limits.lines + 2
  pub known : at.place.file.0 < length (opened_file_names run.names)
  pub deep : run.stack.depth ≤ at.depth
  pub settled : IsSettled run.stage
  pub plain : begun_by (pending_of run) at.may_match bytes ≡ None

-- A line that was taken is obeyed, or emitted as `lines` says. Nothing is read, readers keep the names of their files,
-- and reports only grow.
pub record Obeys {R A : Type 0} (old new : ShelfModel R) (run run' : MergeState R) (bytes : List ℕ)
    (at : LineAt) (lines : A → List Line) (result : Result A Stop) : Type 0 where
  pub same : new ≡ old
  pub readers : Observed old (λ seen. AreReadersKnown seen.opened_as run → AreReadersKnown seen.opened_as run')
  pub still : KeepsReported (so_far_of run) (so_far_of run')
  pub only : OnlyObeys run run' result
  pub yields : Observed old (λ seen. IfOk result (λ x. (source : SourceLine)
      → source.line ≡ record { bytes = bytes; place = at.place } → EmitsAfterLine source (lines x) (so_far_of run)
      (so_far_of run') (events_after_line seen.texts seen.left run at source) (coming seen run')))

-- A step takes a turn, and may read lines. Its line, if it emits one, comes next. If it stops, the reason is that of
-- the events to come.
pub record TakesTurn {R : Type 0} (old new : ShelfModel R) (run run' : MergeState R) (bytes : List ℕ)
    (result : Result Turn Stop) : Type 0 where
  pub reads : Reads old new run run' (outcome result)
  pub turns : Turns run run' bytes result
  pub yields : Observed old (λ seen. IfOk result (λ turn. EmitsLines (turn_lines turn bytes) (so_far_of run)
      (so_far_of run') (coming seen run) (coming seen run')))
  pub stops : Observed old (λ seen. IfErr result (λ stop. StopsThere stop (so_far_of run) (so_far_of run')
      (coming seen run)))
