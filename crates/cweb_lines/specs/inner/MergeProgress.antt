-- How far a merge is: the search for an entry, the old side of a change, steps, turns and output.
use Rattle.std.specs.Prelude.{◌≡◌, ◌<◌, ℕ, List, [], ◌∷◌, ◌++◌, map, Option, None, Some, ◌+◌, ◌||◌, ◌≤◌, ◌*◌, ◌-◌}
use Rattle.std.specs.Prelude.{length}
use Rattle.cweb_lines.specs.Lines.{Place, SourceLine, Thing, Line}
use Rattle.cweb_lines.specs.Change.{Sought, at_place, sought, OldSide, dropping, old_lines}
use Rattle.cweb_lines.specs.Events.{Event, took, fault, written_lines, SourceFault}
use Rattle.cweb_lines.specs.surface.MergeProgress.{SoFar, EmitsLines, pending_in, change_in, Stopped, change_lines}
use Rattle.cweb_lines.specs.surface.MergeProgress.{so_far_of, state_of, things_of, NothingLeft, MergeState, merge}
use Rattle.cweb_lines.specs.surface.MergerCalls.{EmitsLine}
use Rattle.cweb_lines.specs.inner.Stages.{IsOutside, IsSettled, weight_of}
use Rattle.cweb_lines.specs.declared.change.code.Code.{Code}
use Rattle.cweb_lines.specs.declared.change.code.Code.TheVariants.{OldSide as old_side}
use Rattle.cweb_lines.specs.declared.fault.SourceKind.TheVariants.{MissingX}
use Rattle.cweb_lines.specs.declared.change.seek.Look.{Look}
use Rattle.cweb_lines.specs.declared.change.seek.Look.TheVariants.{Entry as first_line, On as goes_on}
use Rattle.cweb_lines.specs.declared.change.Stage.{Stage}
use Rattle.cweb_lines.specs.Merge.{after_old, change_events}
use Rattle.cweb_lines.specs.surface.OpenSources.{Stop, things_above}
use Rattle.cweb_lines.specs.declared.change.old_side.Replaced.{Replaced}
use Rattle.cweb_lines.specs.surface.OpenedFileNames.{world_in}
use Rattle.cweb_lines.specs.inner.OpenSources.{raw_thing}
use Rattle.cweb_lines.specs.declared.open_source.LineAt.{LineAt}
use Rattle.cweb_lines.specs.declared.step.Turn.{Turn}
use Rattle.cweb_lines.specs.declared.step.Turn.TheVariants.{Emitted, On, Ended}
use Rattle.cweb_files.specs.Sinks.{FailsWithin, SinkModel, written}
use Rattle.cweb_lines.specs.inner.Passing.{all_but_last}

-- A search after this line and its faults.
abbrev pub search_after : SourceLine → List SourceFault → Sought → Sought
search_after line faults found = record found { events = took line ∷ map fault faults ++ found.events }

-- A code line outside an entry: its fault, and the place of an @x.
abbrev pub faults_outside : Option Code → Place → List SourceFault
faults_outside None place = []
faults_outside (Some old_side) place = []
faults_outside (Some code) place = at_place MissingX place ∷ []

abbrev pub begun_outside : Option Code → Place → Option Place
begun_outside (Some old_side) place = Some place
begun_outside code place = None

-- A line continues the search, or is the first old line of an entry.
abbrev pub Looks : Look → Option Place → SourceLine → List SourceLine → List SourceFault → Type 0
Looks (goes_on next) begin line lines reported =
    sought (line ∷ lines) begin ≡ search_after line reported (sought lines next)
Looks (first_line entry) begin line lines reported =
    sought (line ∷ lines) begin ≡ search_after line reported (record {
      events = [];
      entry = Some (record { begin = entry; first = line.line.bytes });
      rest = lines;
    })

-- The faults of a line and what it is, whatever follows it.
pub record LooksAt (look : Look) (begin : Option Place) (bytes : List ℕ) (place : Place)
    (old new : List SourceFault) : Type 0 where
  pub reported : List SourceFault
  pub faults : new ≡ old ++ reported
  pub looks : (line : SourceLine) → line.line ≡ record { bytes = bytes; place = place } → (lines : List SourceLine) →
      Looks look begin line lines reported

-- Only some faults of a line were reported.
pub record LooksInPart (line : SourceLine) (all : List Event) (old new : List SourceFault) : Type 0 where
  pub prefix : List SourceFault
  pub rest : List Event
  pub whole : all ≡ took line ∷ map fault prefix ++ rest
  pub reported : new ≡ old ++ prefix

-- The search has ended. Its entry waits, or no entry is left.
pub record Searched (found : Sought) (old new : SoFar) (stage : Stage) (first : List ℕ)
    (lines : List SourceLine) : Type 0 where
  pub yields : EmitsLines [] old new found.events []
  pub outside : IsOutside stage
  pub entry : pending_in stage first ≡ found.entry
  pub rest : change_in stage lines ≡ found.rest

abbrev pub BegunKnown : ℕ → Option Place → Type 0
BegunKnown files None = Unit {0}
BegunKnown files (Some place) = place.file.0 < files

abbrev pub LooksKnown : ℕ → Look → Type 0
LooksKnown files (goes_on next) = BegunKnown files next
LooksKnown files (first_line entry) = entry.file.0 < files

-- The old side at the start of the remaining lines of the change file and the open sources.
abbrev pub old_side_of : {R : Type 0} → (R → List ℕ) → MergeState R → OldSide
old_side_of left run = old_lines (change_lines left run) (things_above left 0 run.stack [])

-- Some of an old side was taken, and `now` is the rest of it.
pub record Replaces (all now : OldSide) (so_far : Replaced) (old new : SoFar) : Type 0 where
  pub yields : EmitsLines [] old new all.events now.events
  pub unequal : all.unequal ≡ so_far.unequal + now.unequal
  pub ran_out : all.ran_out ≡ (so_far.ran_out || now.ran_out)
  pub ended : all.ended ≡ now.ended
  pub rest : all.rest ≡ now.rest
  pub things : all.things ≡ now.things

-- The whole old side was taken and counted, and the faults among its lines were reported.
pub record IsReplaced (all : OldSide) (so_far : Replaced) (change : List SourceLine) (things : List Thing)
    (old new : SoFar) : Type 0 where
  pub yields : EmitsLines [] old new all.events []
  pub unequal : all.unequal ≡ so_far.unequal
  pub ran_out : all.ran_out ≡ so_far.ran_out
  pub ended : all.ended ≡ so_far.ended
  pub rest : all.rest ≡ change
  pub things_are : all.things ≡ things

-- An old line drops the next raw line, if there is one, whatever came before and whatever follows.
abbrev pub Compares : List ℕ → Replaced → Replaced → List Thing → List Thing → SoFar → SoFar → Type 0
Compares bytes before after things things' old new =
    (start : SoFar) (all : OldSide) (later : List Thing → OldSide) →
    Replaces all (dropping bytes things later) before start old → Replaces all (later things') after start new

-- Why an old side stopped, whatever the place of its @x is and whatever follows.
abbrev pub StopsOldSide : Stop → SoFar → SoFar → OldSide → Type 0
StopsOldSide stop old new side =
    (begin : Place) (later : List Event) → Stopped stop old new (change_events begin side ++ later)

pub record ReportsFaultPrefix (all old new : List SourceFault) : Type 0 where
  pub prefix : List SourceFault
  pub rest : List SourceFault
  pub whole : all ≡ prefix ++ rest
  pub reported : new ≡ old ++ prefix

-- The old side was taken and counted, and what is to come is as `after_old` defines it.
pub record IsChanged (begin : Place) (depth : ℕ) (side : OldSide) (stage : Stage) (change : List SourceLine)
    (things : List Thing) (old new : SoFar) : Type 0 where
  pub yields : EmitsLines [] old new (change_events begin side) []
  pub settled : IsSettled stage
  pub after : (files : ℕ) (first : List ℕ)
      → record { things = things; pending = pending_in stage first; change = change_in stage change; files = files }
      ≡ after_old side.ended files depth begin side

-- A line was taken, and then these lines are emitted.
pub record EmitsAfterLine (source : SourceLine) (lines : List Line) (old new : SoFar)
    (all later : List Event) : Type 0 where
  pub rest : List Event
  pub first : all ≡ took source ∷ rest
  pub yields : EmitsLines lines old new rest later

-- All events after this line was taken.
abbrev pub events_after_line : {R : Type 0} → (List ℕ → Option (List ℕ)) → (R → List ℕ) → MergeState R → LineAt
    → SourceLine →
    List Event
events_after_line texts left run at source = merge (world_in texts run.inputs)
    (state_of left run (raw_thing at source ∷ things_of left run))

-- An upper bound of the turns that are left.
abbrev pub turns_left : ℕ → Stage → ℕ
turns_left taken stage = 4 * (16777216 - taken) + weight_of stage

abbrev pub turn_lines : Turn → List ℕ → List Line
turn_lines (Emitted place) bytes = record { bytes = bytes; place = place } ∷ []
turn_lines _ bytes = []

-- What a turn leaves: a counted line of an opened file, fewer turns, or nothing.
abbrev pub TurnLeaves : {R : Type 0} → Turn → List ℕ → MergeState R → MergeState R → Type 0
TurnLeaves (Emitted place) bytes old new = EmitsLine place bytes (so_far_of old) (so_far_of new)
TurnLeaves On bytes old new = (old.limits.lines ≤ new.limits.lines) × (old.limits.bytes ≤ new.limits.bytes)
    × (turns_left new.limits.lines new.stage < turns_left old.limits.lines old.stage)
TurnLeaves Ended bytes old new = NothingLeft new × (new.limits.lines ≡ old.limits.lines)
    × (old.limits.bytes ≤ new.limits.bytes)

-- A write failed within the buffered lines. The next line is the one after them. If there are several, all but the last
-- have fewer than `room` bytes.
pub record FailsAmong (room : ℕ) (old new : SoFar) (all later : List Event) (before after : SinkModel) : Type 0 where
  pub done : List Line
  pub buffered : List Line
  pub yields : EmitsLines (done ++ buffered) old new all later
  pub fails : FailsWithin (written_lines buffered) (written (written_lines done) before) after
  pub some : 0 < length buffered
  pub within : 1 < length buffered → length (written_lines (all_but_last buffered)) < room
