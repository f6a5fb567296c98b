-- The events of a turn: a search, a line that was taken, or a change that begins.
use Rattle.cweb_lines.proofs.Common.{Sought, OldSide, ◌≡◌, ◌&&◌, ℕ, Bool, true, List, [], ◌∷◌, ◌++◌, Some, None, Option, refl, sym, ◌∙◌, ap, length, subst, bytes_eq, Place, WaitingEntry, old_lines, sought, optional_string_bytes, world_in, World, Line, SourceLine, Event, RawLine, Thing, after_old, at_entry, change_events, raw, seek, taking, took, SoFar, change_lines, events_to_come, events_after_line, pending_of, things_of, so_far_of, opened_file_names, IsChanged, Searched, IsOutside, begun_by, pending_in, things_in, IsSettled, floor_of, lines_at, raw_thing, things_above, StaysBelow, StopsOldSide, TakesAbove, merge, merge_next, MergeState, Stack, Stage, Seeking, Waiting, Changing, LineAt, counters_of, OnlyTakes, CountsLine, ReportsPrefix, Stopped, Stop, EmitsLines, arith, rules}
use Rattle.cweb_lines.proofs.AddedEvents.{prefix_more, stopped_more, takes_one, yields_more}
use Rattle.cweb_lines.proofs.EmittedLinesAddUp.{stopped_after, yields_both}
use Rattle.cweb_lines.proofs.WrittenLinesAddUp.{tells_more}
use Rattle.cweb_lines.proofs.ReportsOnlyGrow.{took_faults, took_names}
use Rattle.cweb_lines.proofs.Merges.{state}
use Rattle.cweb_lines.proofs.MergeStateEvents.{coming_of, takes_in}
use Rattle.cweb_lines.proofs.Stops.{above_first, reads_next}

outside_things : {R : Type 0} (l : R → List ℕ) (stage : Stage) (lines : List SourceLine) (stack : Stack R) →
    IsOutside stage → things_in l stage lines stack ≡ things_above l 0 stack []
outside_things l Seeking lines stack outside = absurd outside
outside_things l (Changing change) lines stack outside = absurd outside
outside_things l _ lines stack outside = refl

-- An entry is sought.
module _ {R : Type 0} (t : List ℕ → Option (List ℕ)) (l : R
    → List ℕ) (run : MergeState R) (stage : run.stage ≡ Seeking) where
  abbrev pub found : Sought
  found = sought (change_lines l run) None

  abbrev pub after_search : List Event
  after_search = merge (world_in t run.inputs) (state (things_above l 0 run.stack []) found.entry found.rest
      (length (opened_file_names run.names)))

  pub sought_first : events_to_come t l run ≡ found.events ++ after_search
  sought_first = (λ i. coming_of t (optional_string_bytes run.inputs) l (stage i) run.change run.first.items
      (length (opened_file_names run.names)) (things_in l (stage i) (change_lines l run) run.stack))
      ∙ merge_next (world_in t run.inputs) (state (seek ∷ things_above l 0 run.stack []) None
      (change_lines l run) (length (opened_file_names run.names))) (
        found.events,
        state
            (things_above l 0 run.stack []) found.entry found.rest (length (opened_file_names run.names)),
      ) refl

  pub sought_tells : (new : SoFar) → ReportsPrefix (so_far_of run) new found.events
      → ReportsPrefix (so_far_of run) new (events_to_come t l run)
  sought_tells new prefix = grind (arith, sought_first, prefix_more)

  pub sought_stops : (stop : Stop) (new : SoFar) → Stopped stop (so_far_of run) new found.events
      → Stopped stop (so_far_of run) new (events_to_come t l run)
  sought_stops stop new stopped = grind (arith, sought_first, stopped_more, reads_next, above_first)

  pub sought_yields : (run' : MergeState R) → run'.inputs ≡ run.inputs → run'.stack ≡ run.stack
      → run'.names ≡ run.names → Searched found (so_far_of run)
      (so_far_of run') run'.stage run'.first.items (change_lines l run')
      → EmitsLines [] (so_far_of run) (so_far_of run') (events_to_come t l run) (events_to_come t l run')
  sought_yields run' inputs stack names ends = search (rules, outside_things, sought_first, yields_more)

pub raw_taken : {R : Type 0} (t : List ℕ → Option (List ℕ)) (l : R → List ℕ) (old new : MergeState R) (at : LineAt)
    (bytes : List ℕ) → IsSettled old.stage → TakesAbove l (floor_of old.stage) old.stack new.stack
    (Some at) bytes (counters_of old.limits) (counters_of new.limits)
    → StaysBelow (floor_of old.stage) old.stack.texts new.stack.texts → OnlyTakes old new → new.change ≡ old.change
    → (taken : CountsLine bytes at.place (counters_of old.limits) (counters_of new.limits))
    × (events_to_come t l old ≡ events_after_line t l new at taken.line)
raw_taken t l old new at bytes settled takes stays only change =
    let taken = takes_in l old.stage (change_lines l old) old.stack new.stack (Some at) bytes
    (counters_of old.limits) (counters_of new.limits) settled takes stays in (
      taken.0,
      ap (λ (ts : List Thing). coming_of t (optional_string_bytes old.inputs) l old.stage old.change old.first.items
          (length (opened_file_names old.names)) ts) taken.1
          ∙ sym (λ i. coming_of t (optional_string_bytes (only.inputs i)) l (only.stage i) (change i)
          ((only.first i).items) (length (opened_file_names (only.names i))) (raw_thing at taken.0.line
          ∷ things_in l (only.stage i) (lines_at l (change i)) new.stack)),
    )

begun_entry : (p : Option WaitingEntry) (may_match : Bool) (bytes : List ℕ) (place : Place) →
    begun_by p may_match bytes ≡ Some place → (entry : WaitingEntry) × (p ≡ Some entry) × (entry.begin ≡ place)
    × ((may_match && bytes_eq bytes entry.first) ≡ true)
begun_entry None may_match bytes place is = absurd (cc)
begun_entry (Some entry) may_match bytes place is = grind arith

pub begin_step : (world : World) (entry : WaitingEntry) (source : SourceLine) (bytes : List ℕ) (at : LineAt)
    → source.line ≡ record { bytes = bytes; place = at.place }
    → (at.may_match && bytes_eq bytes entry.first) ≡ true → (things : List Thing) (lines : List SourceLine) (files : ℕ)
    → merge world (state (raw_thing at source ∷ things) (Some entry) lines files)
    ≡ took source ∷ change_events entry.begin (old_lines lines things) ++ merge
    world (after_old (old_lines lines things).ended files at.depth entry.begin (old_lines lines things))
begin_step world entry source bytes at is test things lines files =
    let r : RawLine = record { source = source; depth = at.depth; may_match = at.may_match } in
    let s = state (raw r ∷ things) (Some entry) lines files in
    let old = old_lines lines things in
    merge_next world s (took source ∷ change_events entry.begin old, after_old old.ended files at.depth entry.begin old)
    (ap (λ b. Some (taking source (at_entry b entry world s r things)))
    (ap (λ (l : Line). at.may_match && bytes_eq l.bytes entry.first) is ∙ test))

waits : (stage : Stage) (first : List ℕ) (entry : WaitingEntry) → pending_in stage first ≡ Some entry →
    (begin : Place) × (stage ≡ Waiting begin)
waits (Waiting begin) first entry is = (begin, refl)
waits _ first entry is = absurd (cc)

-- A change begins, in terms of the merger that took the line.
module _ {R : Type 0} (t : List ℕ → Option (List ℕ)) (l : R → List ℕ) (run : MergeState R) where
  abbrev things : List Thing
  things = things_above l 0 run.stack []

  abbrev side : OldSide
  side = old_lines (change_lines l run) things

  abbrev later_old : World → ℕ → ℕ → Place → List Event
  later_old world files depth begin = merge world (after_old side.ended files depth begin side)

  begins_here : (at : LineAt) (source : SourceLine) (bytes : List ℕ) (begin : Place) → source.line
      ≡ record { bytes = bytes; place = at.place } → begun_by (pending_of run) at.may_match bytes ≡ Some begin
      → events_after_line t l run at source ≡ took source ∷ change_events begin side
      ++ later_old (world_in t run.inputs) (length (opened_file_names run.names)) at.depth begin
  begins_here at source bytes begin is begun = grind (arith, begun_entry, waits, begin_step)

  module _ (old : MergeState R) (at : LineAt) (bytes : List ℕ) (begin : Place) (all : List Event)
      (only : OnlyTakes old run)
      (taken : CountsLine bytes at.place (counters_of old.limits) (counters_of run.limits))
      (first : all ≡ events_after_line t l run at taken.line)
      (begun : begun_by (pending_of run) at.may_match bytes ≡ Some begin) where
    abbrev later : List Event
    later = later_old (world_in t run.inputs) (length (opened_file_names run.names)) at.depth begin

    -- The line was taken.
    one : EmitsLines [] (so_far_of old) (so_far_of run) all (change_events begin side ++ later)
    one = subst (λ (es : List Event). EmitsLines [] (so_far_of old) (so_far_of run) es
        (change_events begin side ++ later)) (sym (first ∙ begins_here at taken.line bytes begin taken.is begun))
        (takes_one (so_far_of old) (so_far_of run) bytes at.place taken _ (took_faults only) (took_names only))

    pub began_tells : (new : SoFar) → ReportsPrefix (so_far_of run) new (change_events begin side)
        → ReportsPrefix (so_far_of old) new all
    began_tells new prefix = tells_more [] (so_far_of old) (so_far_of run) new _ _ one (prefix_more later prefix)

    pub began_stops : (stop : Stop) (new : SoFar) → StopsOldSide stop (so_far_of run) new side
        → Stopped stop (so_far_of old) new all
    began_stops stop new stops =
        stopped_after stop (so_far_of old) (so_far_of run) new all _ one (stops begin later)

    pub began_yields : (new : MergeState R) → new.inputs ≡ run.inputs
        → new.names ≡ run.names → IsChanged begin at.depth side new.stage (change_lines l new)
        (things_of l new) (so_far_of run) (so_far_of new)
        → EmitsLines [] (so_far_of old) (so_far_of new) all (events_to_come t l new)
    began_yields new inputs names changed =
        let same : later ≡ events_to_come t l new = sym (ap (λ s. merge (world_in t new.inputs) s)
        (changed.after (length (opened_file_names new.names)) new.first.items)
        ∙ (λ i. later_old (world_in t (inputs i)) (length (opened_file_names (names i))) at.depth begin)) in
        yields_both [] [] (so_far_of old) (so_far_of run) (so_far_of new) _ _ _ one
        (subst (λ (es : List Event).
        EmitsLines [] (so_far_of run) (so_far_of new) (change_events begin side
        ++ later) es) same (yields_more later changed.yields))
