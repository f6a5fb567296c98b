-- The outcome of a list of events.
use Rattle.cweb_lines.proofs.Common.{◌∙◌, WaitingEntry, Sought, Thing, World, merge, merge_next, seek, sought, ◌≡◌, ℕ, List, [], ◌∷◌, ◌++◌, map, None, Some, Option, refl, ap, Line, SourceLine, MergeOutcome, followed_by, outcome_of_events, Event, fault, emitted, opening, took, SourceFault}
use Rattle.cweb_lines.proofs.Merges.{state}

abbrev pub line_first : Line → MergeOutcome → MergeOutcome
line_first line s = record { lines = line ∷ s.lines; faults = s.faults; included = s.included }

abbrev pub fault_first : SourceFault → MergeOutcome → MergeOutcome
fault_first f s = record { lines = s.lines; faults = f ∷ s.faults; included = s.included }

abbrev pub name_first : List ℕ → MergeOutcome → MergeOutcome
name_first name s = record { lines = s.lines; faults = s.faults; included = name ∷ s.included }

pub took_unseen : (lines : List SourceLine) (events : List Event)
    → outcome_of_events (map took lines ++ events) ≡ outcome_of_events events
took_unseen [] events = refl
took_unseen (line ∷ lines) events = took_unseen lines events

-- A search without faults doesn't show in the outcome.
pub seek_unseen : (world : World) (things : List Thing) (change : List SourceLine) (files : ℕ) (taken : List SourceLine)
    (entry : Option WaitingEntry) (rest : List SourceLine)
    → sought change None ≡ record { events = map took taken; entry = entry; rest = rest }
    → outcome_of_events (merge world (state (seek ∷ things) None change files))
    ≡ outcome_of_events (merge world (state things entry rest files))
seek_unseen world things change files taken entry rest is =
    ap outcome_of_events (merge_next world (state (seek ∷ things)
    None change files) (map took taken, state things entry rest files) (ap (λ (found : Sought).
    Some (found.events, state things found.entry found.rest files)) is))
    ∙ took_unseen taken (merge world (state things entry rest files))

pub seen-append : (a b : List Event)
    → outcome_of_events (a ++ b) ≡ followed_by (outcome_of_events a) (outcome_of_events b)
seen-append [] b = refl
seen-append (took source ∷ a) b = seen-append a b
seen-append (emitted line ∷ a) b = ap (line_first line) (seen-append a b)
seen-append (fault f ∷ a) b = ap (fault_first f) (seen-append a b)
seen-append (opening name ∷ a) b = ap (name_first name) (seen-append a b)
