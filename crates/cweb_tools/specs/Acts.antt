-- The acts of a run, what they leave in its devices, and the promise that a run does the acts of its course.
use Rattle.std.specs.Prelude.{◌≡◌, ◌<◌, ◌⊎◌, ℕ, ◌+◌, length, List, [], ◌∷◌, ◌++◌, Option, Some, None, IsSome, IsSomeAnd}
use Rattle.std.specs.Prelude.{codes, if◌then◌else◌, option_map}
use Rattle.std.specs.List.{list_any}
use Rattle.cweb_files.specs.declared.bins.BinFault.TheVariants as bin
use Rattle.cweb_lines.specs.Events.{Event, IsWithinLimits, emitted_lines, taken_lines, written_lines, BreaksLimit}
use Rattle.cweb_lines.specs.declared.stop.Stop.{Stop}
use Rattle.cweb_lines.specs.declared.stop.Stop.TheVariants.{ReadFault, LineTooLong, TooMuchText, Memory, OutNotOpened}
use Rattle.cweb_lines.specs.declared.stop.Stop.TheVariants.{WriteFault, LogFault}
use Rattle.cweb_tools.specs.Items.{LogItem, is_fault, line, file_name_at, stop_line}
use Rattle.cweb_tools.specs.DeviceModels.{Devices, Logs, FailedReads}
use Rattle.cweb_files.specs.Sinks.{FailsWithin, SinkContents, SinkModel, changed, committed, failing, with_draft}
use Rattle.cweb_files.specs.Sinks.{with_printed, without_file, written}

-- An act of a run.
pub data Act : Type 0 where
  -- The words are parsed.
  judges : Act
  -- A line is logged.
  says : LogItem → Act
  -- The web and its change file are opened.
  opens : Act
  -- Files of these names are read, with these events.
  reads : List (List ℕ) → List Event → Act
  -- Files of these names are read, with these events, and the merged lines are printed meanwhile.
  merges : List (List ℕ) → List Event → Act
  -- The outputs are planned.
  plans : Act
  -- Memory for the expansions is allocated.
  reserves : Act
  -- A draft of this name is begun, these bytes are printed to it, and it is committed.
  writes : List ℕ → List ℕ → Act
  -- These bytes are printed to standard output.
  prints : List ℕ → Act

-- A draft of this name is begun, these bytes are written, and it is committed.
abbrev pub with_file : List ℕ → List ℕ → SinkContents → SinkContents
with_file name text now = committed (with_printed text (with_draft name now))

-- A read of the file of this name fails.
abbrev pub blaming : List ℕ → FailedReads → FailedReads
blaming name shelf = record {
  failed = shelf.failed + 1;
  blamed = option_map (λ (names : List (List ℕ)). names ++ name ∷ []) shelf.blamed;
}

-- The devices after an act.
abbrev pub after_act : Act → Devices → Devices
after_act (says item) now = record now { log = written (line item) now.log }
after_act (writes name text) now = record now { out = changed (with_file name text) now.out }
after_act (merges names events) now =
    record now { out = written (written_lines (emitted_lines events)) now.out }
after_act (prints text) now = record now { out = written text now.out }
after_act _ now = now

-- If an act of reading is done, its lines are within the limits.
abbrev pub ActKeepsLimits : Act → Type 0
ActKeepsLimits (reads names events) = IsWithinLimits (taken_lines events)
ActKeepsLimits (merges names events) = IsWithinLimits (taken_lines events)
ActKeepsLimits _ = Unit {0}

-- What stopped a run, and the name that its line ends in.
pub data Ending : Type 0 where
  ending : Stop → List ℕ → Ending

-- A prefix of a line was logged, and the log failed.
pub record FailsLog (text : List ℕ) (old new : Devices) : Type 0 where
  pub log : FailsWithin text old.log new.log
  pub others : new ≡ record old { log = new.log }

-- Standard output failed, and a prefix of the bytes was printed.
pub record FailsOutput (text about : List ℕ) (old new : Devices) : Type 0 where
  pub about_is : about ≡ codes "standard output"
  pub out : FailsWithin text old.out new.out
  pub others : new ≡ record old { out = new.out }

-- A stop of reading is about one of the files that are read, and its line ends in that file's name.
abbrev pub IsOfFile : List (List ℕ) → ℕ → List ℕ → Type 0
IsOfFile names file about = (file < length names) × (about ≡ file_name_at names file)

-- Reading stops after the events `earlier`: a read fails, the next line breaks a limit, or memory is refused.
abbrev pub FailsReading : List (List ℕ) → List Event → List Event → Ending → Devices → Devices → Type 0
FailsReading names earlier later (ending (ReadFault file) about) old new = IsOfFile names file.0 about
    × (new ≡ record old { shelf = blaming about old.shelf })
FailsReading names earlier later (ending (LineTooLong file) about) old new =
    IsOfFile names file.0 about × BreaksLimit (LineTooLong file) earlier later × (new ≡ old)
FailsReading names earlier later (ending TooMuchText about) old new =
    BreaksLimit TooMuchText earlier later × (new ≡ old)
FailsReading names earlier later (ending Memory about) old new = new ≡ old
FailsReading names earlier later why old new = ⊥

-- Reading stops after some of the events. The lines that they emit have been printed, if the act prints lines.
pub record BreaksReading (act : List Event → Act) (names : List (List ℕ)) (events : List Event) (why : Ending)
    (old new : Devices) : Type 0 where
  pub earlier : List Event
  pub later : List Event
  pub whole : events ≡ earlier ++ later
  pub fails : FailsReading names earlier later why (after_act (act earlier) old) new

-- A stop within an act. Each act has its own stops. A file that can't be begun or written to its end is as it was.
abbrev pub Breaks : Act → Ending → Devices → Devices → Type 0
Breaks judges (ending Memory about) old new = new ≡ old
Breaks (says item) (ending LogFault about) old new = FailsLog (line item) old new
Breaks opens (ending Memory about) old new = new ≡ old
Breaks (reads names events) why old new = BreaksReading (reads names) names events why old new
Breaks (merges names events) (ending WriteFault about) old new =
    FailsOutput (written_lines (emitted_lines events)) about old new
Breaks (merges names events) why old new = BreaksReading (merges names) names events why old new
Breaks plans (ending Memory about) old new = new ≡ old
Breaks reserves (ending Memory about) old new = new ≡ old
Breaks (writes name text) (ending Memory about) old new =
    new ≡ record old { out = changed (without_file (Some bin.Memory)) old.out }
Breaks (writes name text) (ending OutNotOpened about) old new = (about ≡ name)
    × (new ≡ record old { out = failing (without_file (Some bin.Device)) old.out })
Breaks (writes name text) (ending WriteFault about) old new = (about ≡ name)
    × (new ≡ record old { out = failing (without_file None) old.out })
Breaks (prints text) (ending WriteFault about) old new = FailsOutput text about old new
Breaks _ _ old new = ⊥

-- The acts are done in order: all of them, or up to one within which something stops the run.
abbrev pub PerformsActs : List Act → Option Ending → Devices → Devices → Type 0
PerformsActs [] None old new = new ≡ old
PerformsActs [] (Some why) old new = ⊥
PerformsActs (act ∷ acts) why old new = (ActKeepsLimits act × PerformsActs acts why (after_act act old) new)
    ⊎ IsSomeAnd why (λ why. Breaks act why old new)

-- The log after a stop has its line, or failed within it. A log that failed before gets no line.
abbrev pub LogsEnding : Ending → SinkModel → SinkModel → Type 0
LogsEnding (ending LogFault about) old new = new ≡ old
LogsEnding (ending stop about) old new = Logs (stop_line stop about) old new

-- What stopped a run is logged last.
pub record LogsStop (why : Ending) (old new : Devices) : Type 0 where
  pub log : LogsEnding why old.log new.log
  pub others : new ≡ record old { log = new.log }

-- The end of a run: all acts are done and the status is `expected`, or something stopped it, which is logged last.
pub data RunEnds (acts : List Act) (expected : ℕ) (before after : Devices) (status : ℕ) : Type 0 where
  completes : PerformsActs acts None before after → status ≡ expected → RunEnds acts expected before after status
  stops : (why : Ending) (mid : Devices) → PerformsActs acts (Some why) before mid → LogsStop why mid after
      → status ≡ 1 → RunEnds acts expected before after status

-- The items that acts log.
abbrev pub logged_items : List Act → List LogItem
logged_items [] = []
logged_items (says item ∷ acts) = item ∷ logged_items acts
logged_items (_ ∷ acts) = logged_items acts

-- The status of a run that does these acts: 1 if a fault or a stop is logged.
abbrev pub acts_status : List Act → ℕ
acts_status acts = if list_any is_fault (logged_items acts) then 1 else 0

-- The acts of the course are done in order: all of them, or up to a stop within one, which is logged last. What isn't
-- observable stays so.
pub record FollowsActs {Course : Type 0} (acts : Course → List Act) (CanBe Is : Course → Type 0)
    (before after : Devices) (status : ℕ) : Type 0 where
  -- The course of the files and the words. For an unobservable shelf, some course that the words allow.
  pub course : Course
  pub can : CanBe course
  pub is : IsSome before.shelf.blamed → Is course
  pub ends : RunEnds (acts course) (acts_status (acts course)) before after status
