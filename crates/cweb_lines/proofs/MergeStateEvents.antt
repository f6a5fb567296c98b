-- The events to come of a merger, by its stack, stage, files and faults.
use Rattle.cweb_lines.proofs.Common.{rules, OnlyOpens, OnlyReports, Some, Bool, true, false, if◌then◌else◌, ◌≡◌, ◌≤◌, ◌<◌, ◌+◌, ◌-◌, ℕ, zero, suc, get_or, List, [], ◌∷◌, ◌++◌, Option, None, refl, ◌∙◌, ap, arith, length, length-append, le-max_left, le-max_right, max-le, Place, WaitingEntry, at_place, World, optional_string_bytes, SourceLine, lines_in, Event, Thing, fault, raws, EmitsLines, NothingLeft, events_to_come, so_far_of, things_of, opened_file_names, IsSettled, change_in, files_begun, stage_for, floor_of, pending_in, things_below, things_in, TakenCountersModel, OpensSource, StaysBelow, StopsAbove, TakesAbove, TakesFirst, TopStops, lines_at, lines_left, things_above, merge, merge_end, merge_next, SourceFault, NoMatch, MergeState, Stack, Change, Stage, Seeking, Waiting, Changing, Stop, LineAt, OpenSource, common_steps}
use Rattle.cweb_lines.proofs.SourceStacks.{over-none}
use Rattle.cweb_lines.specs.inner.Stages.{files_of_faults}
use Rattle.cweb_lines.proofs.Merges.{state, yields_fault}

pub files_in-push : (faults : List SourceFault) (one : SourceFault) (files : ℕ) → files_of_faults faults ≤ files →
    one.place.file.0 < files → files_of_faults (faults ++ one ∷ []) ≤ files
unfolding files_of_faults
files_in-push [] one files each lt = max-le (omega arith) (omega arith)
files_in-push (f ∷ faults) one files each lt =
    max-le (omega (arith, le-max_left (f.place.file.0 + 1) (files_of_faults faults)))
    (files_in-push faults one files (omega (arith, le-max_right (f.place.file.0 + 1) (files_of_faults faults))) lt)

pub files_in-if : (b : Bool) (faults : List SourceFault) (one : SourceFault) (files : ℕ)
    → files_of_faults faults ≤ files →
    one.place.file.0 < files → files_of_faults (if b then faults ++ one ∷ [] else faults) ≤ files
files_in-if true faults one files each lt = files_in-push faults one files each lt
files_in-if false faults one files each lt = each

pub files_in-at : (faults : List SourceFault) (k : ℕ) (d : SourceFault) → k < length faults →
    (get_or faults k d).place.file.0 < files_of_faults faults
unfolding files_of_faults
files_in-at [] k d lt = absurd (omega arith)
files_in-at (f ∷ faults) zero d lt = omega (arith, le-max_left (f.place.file.0 + 1) (files_of_faults faults))
files_in-at (f ∷ faults) (suc k) d lt = grind (arith, files_in-at faults k d (omega arith), le-max_right)

abbrev pub coming_of : {R : Type 0} → (List ℕ → Option (List ℕ)) → Option (List ℕ) → (R → List ℕ) → Stage →
    Option (OpenSource R) → List ℕ → ℕ → List Thing → List Event
coming_of t inputs l stage change first files things = merge (record { texts = t; inputs = inputs })
    (state things (pending_in stage first) (change_in stage (lines_at l change)) files)

-- The sources below a change are unchanged while those above change.
below_same : {R : Type 0} (left : R → List ℕ) (change : Change) (lines : List SourceLine)
    (old new : Stack R) → StaysBelow change.below old.texts new.texts
    → things_below left change lines old ≡ things_below left change lines new
below_same left change lines old new stays = search rules

pub takes_in : {R : Type 0} (left : R → List ℕ) (stage : Stage) (lines : List SourceLine)
    (old new : Stack R) (at : Option LineAt) (bytes : List ℕ) (before after : TakenCountersModel) → IsSettled stage
    → TakesAbove left (floor_of stage) old new at bytes before after →
    StaysBelow (floor_of stage) old.texts new.texts
    → TakesFirst (things_in left stage lines old) at bytes (things_in left stage lines new) before after
takes_in left Seeking lines old new at bytes before after settled takes stays = absurd (settled refl)
takes_in left (Changing change) lines old new at bytes before after settled takes stays = grind (arith, below_same)
takes_in left _ lines old new at bytes before after settled takes stays = takes []

-- Things come first, above the sources that stay open.
pub passes_in : {R : Type 0} (left : R → List ℕ) (stage : Stage) (lines : List SourceLine) (old new : Stack R)
    (first : List Thing) → IsSettled stage → ((rest : List Thing) → things_above left (floor_of stage)
    old rest ≡ first ++ things_above left (floor_of stage) new rest) → StaysBelow (floor_of stage) old.texts new.texts
    → things_in left stage lines old ≡ first ++ things_in left stage lines new
passes_in left Seeking lines old new first settled takes stays = absurd (settled refl)
passes_in left (Changing change) lines old new first settled takes stays = grind (arith, below_same)
passes_in left _ lines old new first settled takes stays = takes []

pub stops_in : {R : Type 0} (left : R → List ℕ) (stage : Stage) (lines : List SourceLine) (stack : Stack R)
    (stop : Stop) (count : TakenCountersModel) → IsSettled stage → StopsAbove left (floor_of stage) stack stop count
    → TopStops stop count (things_in left stage lines stack)
stops_in left Seeking lines stack stop count settled stops = absurd (settled refl)
stops_in left (Changing change) lines stack stop count settled stops = stops (things_below left change lines stack)
stops_in left _ lines stack stop count settled stops = stops []

pub opened_in : {R : Type 0} (left : R → List ℕ) (stage : Stage) (lines : List SourceLine) (old new : Stack R)
    (reader : R) (file : ℕ) (at : LineAt) → IsSettled stage → floor_of stage ≤ old.depth
    → OpensSource old new reader file at
    → StaysBelow old.depth old.texts new.texts → things_in left stage lines new ≡ raws (at.depth + 1) at.may_match
    (lines_in file (left reader)) ++ things_in left stage lines old
opened_in left Seeking lines old new reader file at settled floor opens stays = absurd (settled refl)
opened_in left (Changing change) lines old new reader file at settled floor opens stays = grind (arith, below_same)
opened_in left _ lines old new reader file at settled floor opens stays = opens left 0 (omega arith) []

pub nothing_above : {R : Type 0} (world : World) (l : R → List ℕ) (stack : Stack R) (files : ℕ) → stack.depth ≡ 0 →
    merge world (state (things_above l 0 stack []) None [] files) ≡ []
nothing_above world l stack files none = grind (arith, over-none, merge_end)

pub coming_none : {R : Type 0} (t : List ℕ → Option (List ℕ)) (l : R → List ℕ) (run : MergeState R) → NothingLeft run →
    events_to_come t l run ≡ []
coming_none t l run none = grind (arith, nothing_above)

pub coming_opened : {R : Type 0} (t : List ℕ → Option (List ℕ)) (l : R → List ℕ) (run run' : MergeState R) (reader : R)
    (name : List ℕ) (at : LineAt) → OnlyOpens run run'
    → opened_file_names run'.names ≡ opened_file_names run.names ++ name ∷ [] → IsSettled run.stage
    → OpensSource run.stack run'.stack reader (length (opened_file_names run.names)) at
    → StaysBelow run.stack.depth run.stack.texts run'.stack.texts
    → coming_of t (optional_string_bytes run.inputs) l run.stage run.change run.first.items
    (length (opened_file_names run.names) + 1)
    (raws (at.depth + 1) at.may_match (lines_in (length (opened_file_names run.names)) (l reader)) ++ things_of l run)
    ≡ events_to_come t l run'
coming_opened t l run run' reader name at only names settled opens stays = grind (arith, length-append, opened_in)

pub yields_reported : {R : Type 0} (t : List ℕ → Option (List ℕ)) (l : R → List ℕ) (run run' : MergeState R)
    (f : SourceFault) → OnlyReports run run' → run'.faults.items ≡ run.faults.items ++ f ∷ []
    → EmitsLines [] (so_far_of run) (so_far_of run') (fault f ∷ events_to_come t l run) (events_to_come t l run')
yields_reported t l run run' f only reported = grind (arith, common_steps, yields_fault)

pub no_match : {R : Type 0} (t : List ℕ → Option (List ℕ)) (l : R → List ℕ) (run : MergeState R) (begin : Place) →
    run.stage ≡ Waiting begin → run.stack.depth ≡ 0 → events_to_come t l run ≡ fault (at_place NoMatch begin) ∷ []
no_match t l run begin stage none =
    let world : World = record { texts = t; inputs = optional_string_bytes run.inputs } in
    let entry : WaitingEntry = record { begin = begin; first = run.first.items } in
    let lines = lines_at l run.change in
    let files = length (opened_file_names run.names) in
    (λ i. coming_of t (optional_string_bytes run.inputs) l (stage i) run.change run.first.items files
    (things_in l (stage i) lines run.stack))
    ∙ ap (λ (things : List Thing). merge world (state things (Some entry) lines files))
    (over-none l 0 (run.stack.depth - 0) run.stack.texts [] (omega (arith, none)))
    ∙ merge_next world (state [] (Some entry) lines files) (
      fault (at_place NoMatch begin) ∷ [],
      state [] None lines files,
    ) refl
    ∙ ap (λ (es : List Event). fault (at_place NoMatch begin) ∷ es) (merge_end world (state [] None lines files) refl)

pub begins_low : {R : Type 0} (change : Option (OpenSource R)) (stage : Stage) → stage ≡ stage_for change →
    (floor_of stage ≡ 0) × (files_begun stage ≡ 0)
begins_low None stage is = (ap floor_of is, ap files_begun is)
begins_low (Some text) stage is = (ap floor_of is, ap files_begun is)

pub begun : {R : Type 0} (left : R
    → List ℕ) (stack : Stack R) (text : OpenSource R) (rest : List (Option (OpenSource R))) →
    stack.depth ≡ 1 → stack.texts ≡ Some text ∷ rest → text.depth ≡ 1 → text.may_match ≡ true
    → things_above left 0 stack [] ≡ raws 1 true (lines_left left text)
begun left stack text rest depth texts deep matches = search rules
