-- The merge as steps over a list of things to come. The first thing decides the step.
use Rattle.std.specs.Prelude.{◌≡◌, ℕ, zero, suc, ◌+◌, Bool, true, false, ◌&&◌, nat_lt, List, [], ◌∷◌, ◌++◌, map, Option}
use Rattle.std.specs.Prelude.{None, Some, if◌then◌else◌}
use Rattle.std.specs.Str.{bytes_eq}
use Rattle.cweb_lines.specs.Lines.{Place, SourceLine, lines_in, RawLine, Thing, seek, raw, reported, passed, raws}
use Rattle.cweb_lines.specs.Include.{World, Found, is_include_line, include_name, found_at}
use Rattle.cweb_lines.specs.Change.{change_code, at_place, WaitingEntry, sought, OldSide, old_lines}
use Rattle.cweb_lines.specs.Events.{Event, took, emitted, fault, opening, SourceFault, OPEN_FILES}
use Rattle.cweb_lines.specs.declared.change.code.Code.{Code}
use Rattle.cweb_lines.specs.declared.change.code.Code.TheVariants.{EndSide as end_side}
use Rattle.cweb_lines.specs.declared.fault.SourceKind.TheVariants.{NoName, TooDeep, NotThere, EndedBeforeY, WebEnded}
use Rattle.cweb_lines.specs.declared.fault.SourceKind.TheVariants.{Unequal, WantsZ, EndedBeforeZ, NoMatch}

-- The state of a merge.
pub record MergeStateModel : Type 0 where
  pub things : List Thing
  -- the entry that waits for its first old line
  pub pending : Option WaitingEntry
  -- the remaining lines of the change file
  pub change : List SourceLine
  -- the number of opened files
  pub files : ℕ

-- The new lines of an entry, up to its @z, as things to come.
pub record NewSide : Type 0 where
  pub things : List Thing
  pub rest : List SourceLine

-- Prepends things.
abbrev pub new_things : List Thing → NewSide → NewSide
new_things things side = record side { things = things ++ side.things }

-- A line of the new side by its code. A new line matches no entry. @x or @y is a fault and skipped.
abbrev pub new_at : Option Code → ℕ → SourceLine → List SourceLine → NewSide → NewSide
new_at None depth line lines later = new_things (raw (record { source = line; depth = depth; may_match = false }) ∷ [])
    later
new_at (Some end_side) depth line lines later = record { things = passed line ∷ []; rest = lines }
new_at (Some code) depth line lines more = new_things (passed line ∷ reported (at_place WantsZ line.line.place) ∷ []) more

-- The new side at the start of these lines.
abbrev pub new_lines : ℕ → Place → List SourceLine → NewSide
new_lines depth begin [] = record { things = reported (at_place EndedBeforeZ begin) ∷ []; rest = [] }
new_lines depth begin (line ∷ lines) =
    new_at (change_code line.line.bytes) depth line lines (new_lines depth begin lines)

-- The events of a step, and the next state.
abbrev pub Next : Type 0
Next = List Event × MergeStateModel

-- A fault, if there is one.
abbrev pub fault_if : Bool → SourceFault → List SourceFault
fault_if b f = if b then f ∷ [] else []

-- The faults of an old side as a whole.
abbrev pub closing_faults : Place → Bool → Bool → ℕ → List SourceFault
closing_faults begin ended ran_out unequal =
    fault_if ended (at_place EndedBeforeY begin) ++ fault_if ran_out (at_place WebEnded begin)
    ++ fault_if (nat_lt 0 unequal) (record { kind = Unequal; place = begin; count = unequal })

-- The old side of a change: its events, then its faults as a whole.
abbrev pub change_events : Place → OldSide → List Event
change_events begin old = old.events ++ map fault (closing_faults begin old.ended old.ran_out old.unequal)

-- After the old side the new lines come first, then the search for the next entry, unless the change file has ended.
abbrev pub after_old : Bool → ℕ → ℕ → Place → OldSide → MergeStateModel
after_old true files depth begin old = record { things = old.things; pending = None; change = []; files = files }
after_old false files depth begin old =
    let new = new_lines depth begin old.rest in
    record { things = new.things ++ seek ∷ old.things; pending = None; change = new.rest; files = files }

-- A change whose first old line equals this raw line.
abbrev pub changed : MergeStateModel → WaitingEntry → RawLine → List Thing → Next
changed s entry r things =
    let old = old_lines s.change things in
    (change_events entry.begin old, after_old old.ended s.files r.depth entry.begin old)

-- The state with these things to come.
abbrev pub past : MergeStateModel → List Thing → MergeStateModel
past s things = record s { things = things }

-- An included file that was found or not. Its lines come first, one deeper, and match as the include line does.
abbrev pub obeyed : Option Found → MergeStateModel → RawLine → List Thing → Next
obeyed None s r things = (fault (at_place NotThere r.source.line.place) ∷ [], past s things)
obeyed (Some found) s r things =
    let inside = raws (r.depth + 1) r.may_match (lines_in s.files found.1) in
    (opening found.0 ∷ [], record s { things = inside ++ things; files = s.files + 1 })

-- An include line with a name. At the maximum depth it is a fault.
abbrev pub open_include : Bool → World → List ℕ → MergeStateModel → RawLine → List Thing → Next
open_include false world name s r things = (fault (at_place TooDeep r.source.line.place) ∷ [], past s things)
open_include true world name s r things = obeyed (found_at world name) s r things

-- An include line. Without a name it is a fault.
abbrev pub included : List ℕ → World → MergeStateModel → RawLine → List Thing → Next
included [] world s r things = (fault (at_place NoName r.source.line.place) ∷ [], past s things)
included (b ∷ bs) world s r things = open_include (nat_lt r.depth OPEN_FILES) world (b ∷ bs) s r things

-- A line that begins no change is obeyed or emitted.
abbrev pub plain : Bool → World → MergeStateModel → RawLine → List Thing → Next
plain true world s r things = included (include_name r.source.line.bytes) world s r things
plain false world s r things = (emitted r.source.line ∷ [], past s things)

-- A line that begins the change of this entry or not.
abbrev pub at_entry : Bool → WaitingEntry → World → MergeStateModel → RawLine → List Thing → Next
at_entry true entry world s r things = changed s entry r things
at_entry false entry world s r things = plain (is_include_line r.source.line.bytes) world s r things

-- A raw line is compared with the first old line before it may be obeyed.
abbrev pub at_raw : Option WaitingEntry → World → MergeStateModel → RawLine → List Thing → Next
at_raw None world s r things = plain (is_include_line r.source.line.bytes) world s r things
at_raw (Some entry) world s r things = at_entry (r.may_match && bytes_eq r.source.line.bytes entry.first) entry world s
    r things

-- Prepends the event that a line is taken.
abbrev pub taking : SourceLine → Next → Next
taking line next = (took line ∷ next.0, next.1)

-- At the end an entry that waits is a fault.
abbrev pub at_end : Option WaitingEntry → MergeStateModel → Option Next
at_end None s = None
at_end (Some entry) s = Some (fault (at_place NoMatch entry.begin) ∷ [], record s { things = []; pending = None })

-- The first thing decides. There is no step if nothing is to come.
abbrev pub step_at : List Thing → World → MergeStateModel → Option Next
step_at [] world s = at_end s.pending s
step_at (seek ∷ things) world s =
    let found = sought s.change None in
    Some (found.events, record s { things = things; pending = found.entry; change = found.rest })
step_at (raw r ∷ things) world s = Some (taking r.source (at_raw s.pending world s r things))
step_at (reported f ∷ things) world s = Some (fault f ∷ [], past s things)
step_at (passed line ∷ things) world s = Some (took line ∷ [], past s things)

-- One step of the merge.
abbrev pub step : World → MergeStateModel → Option Next
step world s = step_at s.things world s

-- Prepends events, if there is a result.
abbrev pub onto : List Event → Option (List Event) → Option (List Event)
onto events None = None
onto events (Some later) = Some (events ++ later)

-- A step, then the rest of the run.
abbrev pub step_then_run : Option Next → (MergeStateModel → Option (List Event)) → Option (List Event)
step_then_run None later = Some []
step_then_run (Some next) later = onto next.0 (later next.1)

-- All events, if this number of steps is enough.
abbrev pub run_steps : ℕ → World → MergeStateModel → Option (List Event)
run_steps zero world s = None
run_steps (suc n) world s = step_then_run (step world s) (λ next. run_steps n world next)

-- These events are all that comes of a merge: some number of steps yields them.
abbrev pub Yields : World → MergeStateModel → List Event → Type 0
Yields world s events = (steps : ℕ) × (run_steps steps world s ≡ Some events)

-- A merge begins with the lines of the web. If there is a change file, its first entry is sought before them.
abbrev pub started : List ℕ → Option (List ℕ) → MergeStateModel
started web None = record { things = raws 1 true (lines_in 0 web); pending = None; change = []; files = 1 }
started web (Some change) =
    record { things = seek ∷ raws 1 true (lines_in 0 web); pending = None; change = lines_in 1 change; files = 2 }
