-- How far a merger is, what is to come at its stage, why it stops, and all events of a merge.
use Rattle.std.specs.Prelude.{ℕ, List, [], ◌∷◌, ◌++◌, Option, None, Some, ◌≡◌, ◌+◌, length, zero, suc, ◌-◌, unwrap_or}
use Rattle.cweb_lines.specs.Change.{WaitingEntry}
use Rattle.cweb_lines.specs.Lines.{SourceLine, Thing, seek, Line, CutLine, cut_lines, trimmed, raw}
use Rattle.cweb_lines.specs.Merge.{new_lines, MergeStateModel, run_steps}
use Rattle.cweb_lines.specs.surface.OpenSources.{things_over, things_above, counters_of, lines_at, Stop, Stack}
use Rattle.cweb_lines.specs.declared.change.Change.{Change}
use Rattle.cweb_lines.specs.declared.change.Stage.{Stage}
use Rattle.cweb_lines.specs.declared.change.Stage.TheVariants.{Done, Seeking, Waiting, Changing}
use Rattle.cweb_lines.specs.Events.{Event, took, fault, emitted_lines, reported_faults, openings, taken_lines}
use Rattle.cweb_lines.specs.Events.{size_of_lines, AreShort, SourceFault, OPEN_FILES}
use Rattle.cweb_lines.specs.OpenSources.{TakenCountersModel, RefusesLine}
use Rattle.cweb_lines.specs.declared.fault.SourceKind.{SourceKind}
use Rattle.cweb_lines.specs.declared.fault.SourceKind.TheVariants.{NoOldLines, EndedBeforeY, EndedBeforeZ, NoMatch}
use Rattle.cweb_lines.specs.surface.OpenedFileNames.{world_in, opened_file_names}
pub use Rattle.cweb_lines.specs.declared.merge_state.MergeState.{MergeState}
use Rattle.cweb_lines.specs.declared.stop.Stop.TheVariants.{ReadFault, LineTooLong, TooMuchText, Memory}
use Rattle.cweb_lines.specs.Include.{World, Found, include_name, found_at}

-- The steps of the lines of a file, by those of a line.
abbrev pub steps_of_lines : (List ℕ → ℕ) → List CutLine → ℕ
steps_of_lines steps [] = 0
steps_of_lines steps (line ∷ lines) = steps (trimmed line.bytes) + steps_of_lines steps lines

abbrev pub steps_of_file : (List ℕ → ℕ) → Option Found → ℕ
steps_of_file steps None = 0
steps_of_file steps (Some found) = steps_of_lines steps (cut_lines found.1)

-- A raw line takes one step, and those of the file that it may include. Files nest at most this deep.
abbrev pub steps_of_line : ℕ → World → List ℕ → ℕ
steps_of_line zero world bytes = 1
steps_of_line (suc depth) world bytes =
    1 + steps_of_file (λ line. steps_of_line depth world line) (found_at world (include_name bytes))

abbrev pub steps_of_things : World → List Thing → ℕ
steps_of_things world [] = 0
steps_of_things world (raw r ∷ things) =
    steps_of_line (OPEN_FILES - r.depth) world r.source.line.bytes + steps_of_things world things
steps_of_things world (thing ∷ things) = 1 + steps_of_things world things

-- A line of the change file may become a raw line, or is skipped and reported.
abbrev pub steps_of_change : World → List SourceLine → ℕ
steps_of_change world [] = 0
steps_of_change world (line ∷ lines) =
    2 + steps_of_line OPEN_FILES world line.line.bytes + steps_of_change world lines

-- After a waiting entry its end may be reported, and the next entry is sought.
abbrev pub steps_of_entry : Option WaitingEntry → ℕ
steps_of_entry None = 0
steps_of_entry (Some entry) = 2

-- At least as many steps as are left.
abbrev pub enough_steps : World → MergeStateModel → ℕ
enough_steps world s =
    1 + steps_of_things world s.things + steps_of_entry s.pending + steps_of_change world s.change

-- All events from a state on. Nothing rests on the number of steps: by `merge_has_one_answer` any number that is
-- enough yields the same.
unfoldable pub merge : World → MergeStateModel → List Event
merge world s = unwrap_or (run_steps (enough_steps world s) world s) []

-- The entry that waits, with its first old line.
abbrev pub pending_in : Stage → List ℕ → Option WaitingEntry
pending_in (Waiting begin) first = Some (record { begin = begin; first = first })
pending_in _ first = None

-- The lines of the change file after the entry whose new lines are taken.
abbrev pub change_in : Stage → List SourceLine → List SourceLine
change_in Done lines = []
change_in (Changing change) lines = (new_lines change.depth change.begin lines).rest
change_in _ lines = lines

-- The rest of the new side, the search for the next entry, and the sources below the change.
abbrev pub things_below : {R : Type 0} → (R → List ℕ) → Change → List SourceLine → Stack R → List Thing
things_below left change lines stack = (new_lines change.depth change.begin lines).things
    ++ seek ∷ things_over left 0 change.below stack.texts []

-- All things to come. `lines` are the remaining lines of the change file.
abbrev pub things_in : {R : Type 0} → (R → List ℕ) → Stage → List SourceLine → Stack R → List Thing
things_in left Seeking lines stack = seek ∷ things_above left 0 stack []
things_in left (Changing change) lines stack = things_above left change.below stack
    (things_below left change lines stack)
things_in left _ lines stack = things_above left 0 stack []

-- What was reported and taken so far.
pub record SoFar : Type 0 where
  pub faults : List SourceFault
  -- the names of the opened files
  pub names : List (List ℕ)
  pub count : TakenCountersModel

-- A prefix of all events happened, and `later` is left. It emitted these lines, and its other events add to `old`.
pub record EmitsLines (lines : List Line) (old new : SoFar) (all later : List Event) : Type 0 where
  pub events : List Event
  pub whole : all ≡ events ++ later
  pub emitted : emitted_lines events ≡ lines
  pub faults : new.faults ≡ old.faults ++ reported_faults events
  pub names : new.names ≡ old.names ++ openings events
  pub lines_are : new.count.lines ≡ old.count.lines + length (taken_lines events)
  pub bytes_are : new.count.bytes ≡ old.count.bytes + size_of_lines (taken_lines events)
  pub short : AreShort (taken_lines events)

-- All events before a line happened and emitted these lines. The line causes the stop.
pub record StopsAfterLines (emitted : List Line) (stop : Stop) (old new : SoFar) (all : List Event) : Type 0 where
  pub line : SourceLine
  pub later : List Event
  pub yields : EmitsLines emitted old new all (took line ∷ later)
  pub why : RefusesLine stop new.count line

abbrev pub IsPrefix : {A : Type 0} → List A → List A → Type 0
IsPrefix {A = A} prefix list = (rest : List A) × (list ≡ prefix ++ rest)

-- The faults and names so far are a prefix of the new ones.
pub record KeepsReported (old new : SoFar) : Type 0 where
  pub faults : IsPrefix old.faults new.faults
  pub names : IsPrefix old.names new.names

-- The new faults and names are those of a prefix of all events.
pub record ReportsPrefix (old new : SoFar) (all : List Event) : Type 0 where
  pub events : List Event
  pub later : List Event
  pub whole : all ≡ events ++ later
  pub faults : new.faults ≡ old.faults ++ reported_faults events
  pub names : new.names ≡ old.names ++ openings events

-- A fault of this kind may be reported at the end of a file. `NoOldLines` may also follow a code line.
abbrev pub IsAtEnd : SourceKind → Type 0
IsAtEnd NoOldLines = Unit {0}
IsAtEnd EndedBeforeY = Unit {0}
IsAtEnd EndedBeforeZ = Unit {0}
IsAtEnd NoMatch = Unit {0}
IsAtEnd _ = ⊥

-- The next event takes a line or is reported at the end of a file, or there is none.
abbrev pub ReadsNext : List Event → Type 0
ReadsNext [] = Unit {0}
ReadsNext (took line ∷ events) = Unit {0}
ReadsNext (fault f ∷ events) = IsAtEnd f.kind
ReadsNext _ = ⊥

-- A read failed. All events before it happened and emitted these lines.
pub record ReadFailsAfterLines (emitted : List Line) (old new : SoFar) (all : List Event) : Type 0 where
  pub later : List Event
  pub yields : EmitsLines emitted old new all later
  pub next : ReadsNext later

-- Why there is no line: a read failed, a line breaks a limit, or memory was refused.
abbrev pub Stopped : Stop → SoFar → SoFar → List Event → Type 0
Stopped (ReadFault file) old new all = ReadFailsAfterLines [] old new all
Stopped (LineTooLong file) old new all = StopsAfterLines [] (LineTooLong file) old new all
Stopped TooMuchText old new all = StopsAfterLines [] TooMuchText old new all
Stopped Memory old new all = Unit {0}
Stopped _ old new all = ⊥

abbrev pub so_far_of : {R : Type 0} → MergeState R → SoFar
so_far_of run = record {
  faults = run.faults.items;
  names = opened_file_names run.names;
  count =
      counters_of run.limits;
}

abbrev pub change_lines : {R : Type 0} → (R → List ℕ) → MergeState R → List SourceLine
change_lines left run = lines_at left run.change

abbrev pub pending_of : {R : Type 0} → MergeState R → Option WaitingEntry
pending_of run = pending_in run.stage run.first.items

-- The state of the merge that has these things to come.
abbrev pub state_of : {R : Type 0} → (R → List ℕ) → MergeState R → List Thing → MergeStateModel
state_of left run things = record {
  things = things;
  pending = pending_of run;
  change = change_in run.stage (change_lines left run);
  files = length (opened_file_names run.names);
}

abbrev pub things_of : {R : Type 0} → (R → List ℕ) → MergeState R → List Thing
things_of left run = things_in left run.stage (change_lines left run) run.stack

abbrev pub events_to_come : {R : Type 0} → (List ℕ → Option (List ℕ)) → (R → List ℕ) → MergeState R → List Event
events_to_come texts left run = merge (world_in texts run.inputs) (state_of left run (things_of left run))

-- No source is open, and no entry is left.
abbrev pub NothingLeft : {R : Type 0} → MergeState R → Type 0
NothingLeft run = (run.stack.depth ≡ 0) × (run.stage ≡ Done)
