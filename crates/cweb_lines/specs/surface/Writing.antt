-- How far the output of a merge is, and why it stops.
use Rattle.std.specs.Prelude.{◌≡◌, ◌≤◌, ◌+◌, ℕ, List, [], ◌∷◌, ◌++◌, length, Option, None, Some, Result, Err, IfErr}
use Rattle.std.specs.Prelude.{IfSome, OnErr, OnOk}
use Rattle.cweb_files.specs.Sinks.{FailsWithin, SinkModel, written}
use Rattle.cweb_files.specs.surface.Writes.{Prints, WritesPrefix}
use Rattle.cweb_files.specs.Shelves.{Observed}
use Rattle.cweb_files.specs.declared.device.Shelf.{Ghosts as Shelf}
use Rattle.cweb_files.specs.declared.device.Sink.{Ghosts as Sink}
use Rattle.cweb_lines.specs.Lines.{Line}
use Rattle.cweb_lines.specs.Events.{Event, emitted_lines, written_lines}
use Rattle.cweb_lines.specs.surface.MergeProgress.{SoFar, EmitsLines, StopsAfterLines, ReadFailsAfterLines}
use Rattle.cweb_lines.specs.surface.MergeProgress.{ReportsPrefix}
use Rattle.cweb_lines.specs.surface.OpenSources.{files_named, ReadsShelf, Stop}
use Rattle.cweb_lines.specs.surface.MergerCalls.{Grows, HasEnded, KnowsReaders, StaysKnown, lines_to_come, so_far}
use Rattle.cweb_lines.specs.surface.MergerCalls.{stop_in, to_come}
use Rattle.cweb_lines.specs.declared.merger.Merger.{Merger}
use Rattle.cweb_lines.specs.declared.stop.Stop.TheVariants.{ReadFault, LineTooLong, TooMuchText, Memory, WriteFault}

-- This text was written to a sink.
abbrev pub Writes : SinkModel → SinkModel → List ℕ → Type 0
Writes old new text = new ≡ written text old

-- All lines were emitted and written.
pub record WritesAll (old new : SoFar) (all : List Event) (Wrote : List ℕ → Type 0) : Type 0 where
  pub yields : EmitsLines (emitted_lines all) old new all []
  pub wrote : Wrote (written_lines (emitted_lines all))

-- A prefix of the lines was written.
pub record WritesSome (all : List Event) (Wrote : List ℕ → Type 0) : Type 0 where
  pub lines : List Line
  pub rest : List Line
  pub whole : emitted_lines all ≡ lines ++ rest
  pub wrote : Wrote (written_lines lines)

-- All lines before one that breaks a limit were written.
pub record WritesUpTo (stop : Stop) (old new : SoFar) (all : List Event) (Wrote : List ℕ → Type 0) : Type 0 where
  pub lines : List Line
  pub stops : StopsAfterLines lines stop old new all
  pub wrote : Wrote (written_lines lines)

-- All lines before a failed read were written.
pub record WritesRead (old new : SoFar) (all : List Event) (Wrote : List ℕ → Type 0) : Type 0 where
  pub lines : List Line
  pub reads : ReadFailsAfterLines lines old new all
  pub wrote : Wrote (written_lines lines)

-- What was written at a stop: whole lines, unless a write failed.
abbrev pub StopsWriting : Stop → SoFar → SoFar → List Event → (List ℕ → Type 0) → Type 0
StopsWriting (ReadFault file) old new all Wrote = WritesRead old new all Wrote
StopsWriting (LineTooLong file) old new all Wrote = WritesUpTo (LineTooLong file) old new all Wrote
StopsWriting TooMuchText old new all Wrote = WritesUpTo TooMuchText old new all Wrote
StopsWriting Memory old new all Wrote = WritesSome all Wrote
StopsWriting WriteFault old new all Wrote = Unit {0}
StopsWriting _ old new all Wrote = ⊥

-- Why not all lines were written, and what was reported so far.
pub record StopsWritingEarly (stop : Stop) (old new : SoFar) (all : List Event) (Wrote : List ℕ → Type 0) : Type 0 where
  pub why : StopsWriting stop old new all Wrote
  pub reported : ReportsPrefix old new all

-- A write failed within one line. The next line is the one after it.
pub record LosesLine (old new : SoFar) (all later : List Event) (before after : SinkModel) : Type 0 where
  pub done : List Line
  pub line : Line
  pub yields : EmitsLines (done ++ line ∷ []) old new all later
  pub fails : FailsWithin (line.bytes ++ 10 ∷ []) (written (written_lines done) before) after

-- The stops of writing.
abbrev pub WritingStops : Stop → Type 0
WritingStops (ReadFault file) = Unit {0}
WritingStops (LineTooLong file) = Unit {0}
WritingStops TooMuchText = Unit {0}
WritingStops Memory = Unit {0}
WritingStops WriteFault = Unit {0}
WritingStops _ = ⊥

-- The merger goes on after a write fault and stores any other stop.
abbrev pub KeepsStop : Stop → Option Stop → Type 0
KeepsStop WriteFault in_merger = in_merger ≡ None
KeepsStop stop in_merger = in_merger ≡ Some stop

-- By how much a stop raises the failure count of a sink.
abbrev pub write_failures_of : Stop → ℕ
write_failures_of WriteFault = 1
write_failures_of _ = 0

-- The state after a stop: a write fault is counted in `old` and `new`, and a file number in the stop is that of an
-- opened file. The merger stores the stop, unless it is a write fault.
pub record LeavesSink (stop : Stop) (old new : ℕ) (in_merger : Option Stop) (files : ℕ) : Type 0 where
  pub kind : WritingStops stop
  pub out : new ≡ old + write_failures_of stop
  pub named : files_named stop ≤ files
  pub kept : KeepsStop stop in_merger

-- The lines to come are written. `Loses` says which of them a write fault loses.
pub record WritesMerged {S R W A : Type 0} (shelf : Shelf S R) (sink : Sink W)
    (Loses : SoFar → SoFar → List Event → List Event → SinkModel → SinkModel → Type 0) (old new : S)
    (merger merger' : Merger S R) (out out' : W) (result : Result A Stop) : Type 0 where
  pub grows : Grows (so_far merger) (so_far merger')
  pub printed : Prints (sink.model out) (sink.model out')
  -- all lines were written
  pub ok : Observed (shelf.model old) (λ seen. OnOk result (WritesAll (so_far merger) (so_far merger')
      (to_come seen merger) (Writes (sink.model out) (sink.model out'))))
  pub ended : OnOk result ((stop_in merger' ≡ None) × HasEnded merger'
      × ((sink.model out').failed ≡ (sink.model out).failed))
  -- a prefix of them was written, and why
  pub prefix : Observed (shelf.model old) (λ seen. OnErr result
      (WritesPrefix (written_lines (lines_to_come seen merger)) (sink.model out) (sink.model out')))
  pub stops : Observed (shelf.model old) (λ seen. stop_in merger ≡ None → IfErr result (λ stop. StopsWritingEarly stop
      (so_far merger) (so_far merger') (to_come seen merger) (Writes (sink.model out) (sink.model out'))))
  pub fault : Observed (shelf.model old) (λ seen. stop_in merger ≡ None → result ≡ Err WriteFault
      → Loses (so_far merger) (so_far merger') (to_come seen merger) (to_come seen merger') (sink.model out)
      (sink.model out'))
  -- the device that the stop names has failed, once, and no other
  pub reads : stop_in merger ≡ None → ReadsShelf (shelf.model old) (shelf.model new) result
  pub blames : stop_in merger ≡ None → IfErr result (λ stop. LeavesSink stop (sink.model out).failed
      (sink.model out').failed (stop_in merger') (length (so_far merger').names))
  pub known : Observed (shelf.model old) (λ seen. KnowsReaders seen merger
      → StaysKnown seen (shelf.model old) (shelf.model new) merger merger' result)
  -- after an earlier stop nothing happens
  pub again : IfSome (stop_in merger) (λ stop. (result ≡ Err stop) × (merger' ≡ merger) × (new ≡ old) × (out' ≡ out)
      × (files_named stop ≤ length (so_far merger').names))
