-- The new side of a change, line by line.
use Rattle.cweb_lines.proofs.Common.{rules, subst, OnlyTakes, OnlyReports, lines_at, ◌≡◌, ℕ, false, List, [], ◌∷◌, ◌++◌, Some, None, Option, refl, sym, ◌∙◌, ap, length, sameb, Place, at_place, change_code, world_in, World, Line, SourceLine, Event, NewSide, Thing, fault, new_at, new_lines, passed, seek, reported, took, EmitsLines, SoFar, Stopped, change_lines, events_to_come, events_after_line, so_far_of, counters_of, opened_file_names, FirstStops, StopsFor, CountsLine, things_above, things_over, merge, merge_next, the_type, Code, EndedBeforeZ, WantsZ, MergeState, Change, Changing, Stack, Stop, arith, common_steps}
use Rattle.cweb_lines.specs.declared.change.code.Code.TheVariants.{OldSide as old_side, NewSide as new_side, EndSide as end_side}
use Rattle.cweb_lines.proofs.AddedEvents.{takes_one}
use Rattle.cweb_lines.proofs.EmittedLinesAddUp.{yields_both}
use Rattle.cweb_lines.proofs.ReportsOnlyGrow.{took_faults, took_names}
use Rattle.cweb_lines.proofs.Merges.{yields_fault, merge_takes, state}
use Rattle.cweb_lines.proofs.Stops.{stopped_first, reads_next, new_first as reads_new}
use Rattle.cweb_lines.proofs.Codes.{is_faulty_new}

-- The events of the remaining new lines, the next search and the sources below.
abbrev pub coming_new : World → Change → List SourceLine → List Thing → ℕ → List Event
coming_new world change lines below files = merge world (state ((new_lines change.depth change.begin lines).things
    ++ seek ∷ below) None (new_lines change.depth change.begin lines).rest files)

module _ (world : World) (change : Change) (below : List Thing) (files : ℕ) where
  abbrev of_side : NewSide → List Event
  of_side side = merge world (state (side.things ++ seek ∷ below) None side.rest files)

  pub new_none : (lines : List SourceLine) → lines ≡ [] → coming_new world change lines below files ≡ fault
      (at_place EndedBeforeZ change.begin) ∷ merge world (state below None [] files)
  new_none lines none = ap (λ (ls : List SourceLine). coming_new world change ls below files) none
      ∙ merge_next world (state (reported (at_place EndedBeforeZ change.begin) ∷ seek ∷ below) None [] files)
      (fault (at_place EndedBeforeZ change.begin) ∷ [], state (seek ∷ below) None [] files) refl
      ∙ ap (λ (es : List Event). fault (at_place EndedBeforeZ change.begin) ∷ es)
      (merge_next world (state (seek ∷ below) None [] files) ([], state below None [] files) refl)

  module _ (line : SourceLine) (lines : List SourceLine) where
    takes_by : (code : Option Code) → (rest : List Event) × (of_side
        (new_at code change.depth line lines (new_lines change.depth change.begin lines)) ≡ took line ∷ rest)
    takes_by None =
        merge_takes world (record { source = line; depth = change.depth; may_match = false }) ((new_lines change.depth
        change.begin lines).things ++ seek ∷ below) None (new_lines change.depth change.begin lines).rest files
    takes_by (Some old_side) = (_, merge_next world _ (took line ∷ [], _) refl)
    takes_by (Some new_side) = (_, merge_next world _ (took line ∷ [], _) refl)
    takes_by (Some end_side) = (_, merge_next world _ (took line ∷ [], _) refl)

    pub new_takes : (rest : List Event) × (coming_new world change (line ∷ lines) below files ≡ took line ∷ rest)
    new_takes = takes_by (change_code line.line.bytes)

    module _ (bytes : List ℕ) (place : Place) (is : line.line ≡ record { bytes = bytes; place = place }) where
      side : (code : Option Code) → change_code bytes ≡ code → coming_new world change (line ∷ lines) below files
          ≡ of_side (new_at code change.depth line lines (new_lines change.depth change.begin lines))
      side code test = ap (λ (l : Line).
          of_side (new_at (change_code l.bytes) change.depth line lines (new_lines change.depth change.begin lines))) is
          ∙ ap (λ k. of_side (new_at k change.depth line lines (new_lines change.depth change.begin lines))) test

      pub new_end : change_code bytes ≡ Some end_side → coming_new world change
          (line ∷ lines) below files ≡ took line ∷ merge world (state (seek ∷ below) None lines files)
      new_end test = side (Some end_side) test ∙ merge_next world (state (passed line ∷ seek ∷ below) None lines files)
          (took line ∷ [], state (seek ∷ below) None lines files) refl

      pub new_fault : (code : Code) → change_code bytes ≡ Some code → sameb the_type code end_side ≡ false
          → coming_new world change (line ∷ lines) below files ≡ took line ∷ fault
          (at_place WantsZ place) ∷ coming_new world change lines below files
      new_fault code test other =
          let l = new_lines change.depth change.begin lines in
          side (Some code) test
          ∙ ap of_side (is_faulty_new code change.depth line lines l other)
          ∙ merge_next world (state (passed line ∷ reported (at_place WantsZ line.line.place) ∷ l.things ++ seek ∷
          below)
          None l.rest files) (
            took line ∷ [],
            state (reported (at_place WantsZ line.line.place) ∷ l.things
                ++ seek ∷ below) None l.rest files,
          ) refl
          ∙ ap (λ (es : List Event). took line ∷ es)
          (merge_next world (state (reported (at_place WantsZ line.line.place) ∷ l.things ++ seek ∷ below) None l.rest
          files) (
            fault (at_place WantsZ line.line.place) ∷ [],
            state (l.things ++ seek ∷ below) None l.rest files,
          ) refl)
          ∙ ap (λ (at : Line). took line ∷ fault (at_place WantsZ at.place) ∷ coming_new world change lines below files)
          is

  pub new_stops : (stop : Stop) (lines : List SourceLine) (old new : SoFar) → new ≡ old → StopsFor
      (FirstStops stop old.count lines) stop → Stopped stop old new (coming_new world change lines below files)
  new_stops stop lines old new same stops = stopped_first stop (FirstStops stop old.count lines) old new _ same
      (reads_next _ _ _ _ _ (reads_new change.depth change.begin lines _)) (λ first.
      let taken = new_takes first.line first.rest in (
        first.line,
        (taken.0, ap (λ (ls : List SourceLine). coming_new world change ls below files) first.first ∙ taken.1),
        first.why,
      ))
      stops

-- A merger that takes new lines, with no more open sources than at their start.
module _ {R : Type 0} (t : List ℕ → Option (List ℕ)) (l : R → List ℕ) (run : MergeState R) (change : Change)
    (stage : run.stage ≡ Changing change) (low : run.stack.depth ≡ change.below) where
  abbrev pub texts_below : List Thing
  texts_below = things_over l 0 change.below run.stack.texts []

  pub coming_is : events_to_come t l run ≡ coming_new (world_in t run.inputs) change (change_lines l run) texts_below
      (length (opened_file_names run.names))
  coming_is = search rules

-- The events of a new line, by the contracts of the calls.
module _ {R : Type 0} (t : List ℕ → Option (List ℕ)) (l : R → List ℕ) {run mid : MergeState R} {change : Change}
    (stage : run.stage ≡ Changing change) (low : run.stack.depth ≡ change.below) (only : OnlyTakes run mid)
    (stack : mid.stack ≡ run.stack) where
  abbrev world : World
  world = world_in t run.inputs

  abbrev files : ℕ
  files = length (opened_file_names run.names)

  abbrev under : List Thing
  under = things_over l 0 change.below run.stack.texts []

  later_is : (new : MergeState R) → new.inputs ≡ run.inputs → new.stack ≡ run.stack → new.names ≡ run.names → (prefix :
      List Thing → List Thing) (lines : List SourceLine) → merge world (state (prefix under) None lines files) ≡ merge
      (world_in t new.inputs)
      (state (prefix (things_above l 0 new.stack [])) None lines (length (opened_file_names new.names)))
  later_is new inputs stack names prefix lines = search rules

  pub new_ended : (new : MergeState R) → OnlyReports mid new
      → change_lines l run ≡ [] → counters_of new.limits ≡ counters_of run.limits → new.faults.items ≡ mid.faults.items
      ++ at_place EndedBeforeZ change.begin ∷ []
      → EmitsLines [] (so_far_of run) (so_far_of new) (events_to_come t l run)
      (merge (world_in t new.inputs)
      (state (things_above l 0 new.stack []) None [] (length (opened_file_names new.names))))
  new_ended new tells none count is =
      grind (arith, common_steps, yields_fault, coming_is, new_none, later_is, took_faults)

  module _ (bytes : List ℕ) (place : Place)
      (taken : CountsLine bytes place (counters_of run.limits) (counters_of mid.limits)) where
    one : (later : List Event) → EmitsLines [] (so_far_of run) (so_far_of mid) (took taken.line ∷ later) later
    one later = takes_one (so_far_of run) (so_far_of mid) bytes place taken later (took_faults only) (took_names only)

    first : (rest : List SourceLine) → change_lines l run ≡ taken.line ∷ rest
        → events_to_come t l run ≡ coming_new world change (taken.line ∷ rest) under files
    first rest is = search rules

    pub new_side_ended : (rest : List SourceLine) → change_lines l run ≡ taken.line ∷ rest → change_code bytes
        ≡ Some end_side → EmitsLines [] (so_far_of run) (so_far_of mid) (events_to_come t l run)
        (merge (world_in t mid.inputs)
        (state (seek ∷ things_above l 0 mid.stack []) None rest (length (opened_file_names mid.names))))
    new_side_ended rest is test = subst (λ (es : List Event). EmitsLines [] (so_far_of run) (so_far_of mid) es
        (merge (world_in t mid.inputs)
        (state (seek ∷ things_above l 0 mid.stack []) None rest (length (opened_file_names mid.names)))))
        (sym (first rest is
        ∙ new_end world change under files taken.line rest bytes place taken.is test ∙ ap (λ (es : List Event).
        took taken.line ∷ es) (later_is mid only.inputs stack only.names (λ ts. seek ∷ ts) rest))) (one _)

    pub new_faulty : (new : MergeState R) → OnlyReports mid new → change_lines l run ≡ taken.line ∷ change_lines l mid
        → (code :
        Code) → change_code bytes ≡ Some code → sameb the_type code end_side ≡ false
        → new.faults.items ≡ mid.faults.items
        ++ at_place WantsZ place ∷ []
        → EmitsLines [] (so_far_of run) (so_far_of new) (events_to_come t l run) (events_to_come t l new)
    new_faulty new tells rest code test other is =
        let more : coming_new world change (change_lines l mid) under files ≡ events_to_come t l new =
        sym (coming_is t l new change (tells.stage ∙ only.stage ∙ stage) (ap (λ (s : Stack R). s.depth)
        (tells.stack ∙ stack) ∙ low) ∙ (λ i. coming_new (world_in t ((tells.inputs ∙ only.inputs) i)) change
        (lines_at l (tells.change i)) (things_over l 0 change.below (((tells.stack ∙ stack) i).texts) [])
        (length (opened_file_names ((tells.names ∙ only.names) i))))) in
        let all = first _ rest
        ∙ new_fault world change under files taken.line (change_lines l mid) bytes place taken.is code test other
        ∙ ap (λ (es : List Event). took taken.line ∷ fault (at_place WantsZ place) ∷ es) more in
        subst (λ (es : List Event). EmitsLines [] (so_far_of run) (so_far_of new) es (events_to_come t l new))
        (sym all) (yields_both [] [] _ (so_far_of mid) _ _ _ _ (one _) (yields_fault (so_far_of mid) (so_far_of new) _ _
        (ap counters_of tells.limits) (at_place WantsZ place) refl is (ap opened_file_names tells.names)))

    pub new_first : change_lines l run ≡ taken.line ∷ change_lines l mid → change_code bytes ≡ None
        → events_to_come t l run
        ≡ events_after_line t l mid (record { place = place; depth = change.depth; may_match = false }) taken.line
    new_first rest test = search rules
