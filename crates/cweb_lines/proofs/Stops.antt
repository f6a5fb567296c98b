-- The events before a stop.
use Rattle.cweb_lines.proofs.Common.{rules, ◌≡◌, ◌++◌, ℕ, zero, suc, List, [], ◌∷◌, Option, Some, None, refl, sym, ◌∙◌, ap, subst, Bool, Place, WaitingEntry, World, SourceLine, NewSide, Thing, seek, raw, raws, reported, passed, Event, took, fault, at_place, NoMatch, sought, new_at, new_lines, things_over, things_above, things_in, SoFar, ReadsNext, IsAtEnd, Stopped, TopStops, StopsFor, RefusesLine, Code, Stage, Seeking, Changing, Stack, OpenSource, merge, merge_end, merge_next, so_far_of, counters_of, OnlyTakes, MergeState, Result, Ok, Err, IfErr, OnErr, ReportsPrefix, Stop, Memory, arith}
use Rattle.cweb_lines.specs.declared.change.code.Code.TheVariants.{EndSide as end_side}
use Rattle.cweb_lines.specs.surface.MergerCalls.{StopsThere}
use Rattle.cweb_lines.proofs.Merges.{yields_nothing, merge_takes, state}

-- The first thing but searches is a line, or is reported at the end of a file.
abbrev pub ReadsFirst : List Thing → Type 0
ReadsFirst [] = Unit {0}
ReadsFirst (seek ∷ things) = ReadsFirst things
ReadsFirst (raw r ∷ things) = Unit {0}
ReadsFirst (passed line ∷ things) = Unit {0}
ReadsFirst (reported f ∷ things) = IsAtEnd f.kind

pub reads_next : (world : World) (things : List Thing) (pending : Option WaitingEntry) (change : List SourceLine)
    (files : ℕ) → ReadsFirst things → ReadsNext (merge world (state things pending change files))
reads_next world [] None change files first = grind (arith, merge_end)
reads_next world [] (Some entry) change files first =
    subst ReadsNext (sym (merge_next world (state [] (Some entry) change files)
    (fault (at_place NoMatch entry.begin) ∷ [], state [] None change files) refl)) tt
reads_next world (seek ∷ things) pending [] files first =
    subst ReadsNext (sym (merge_next world (state (seek ∷ things) pending [] files) ([], state things None [] files)
    refl)) (reads_next world things None [] files first)
reads_next world (seek ∷ things) pending (line ∷ lines) files first =
    let found = sought (line ∷ lines) None in
    subst ReadsNext (sym (merge_next world (state (seek ∷ things) pending (line ∷ lines) files)
    (found.events, state things found.entry found.rest files) refl)) tt
reads_next world (raw r ∷ things) pending change files first =
    subst ReadsNext (sym (merge_takes world r things pending change files).1) tt
reads_next world (reported f ∷ things) pending change files first =
    subst ReadsNext (sym (merge_next world (state (reported f ∷ things) pending change files)
    (fault f ∷ [], state things pending change files) refl)) first
reads_next world (passed line ∷ things) pending change files first =
    subst ReadsNext (sym (merge_next world (state (passed line ∷ things) pending change files)
    (took line ∷ [], state things pending change files) refl)) tt

raws_first : (depth : ℕ) (may_match : Bool) (lines : List SourceLine) (rest : List Thing) → ReadsFirst rest
    → ReadsFirst (raws depth may_match lines ++ rest)
raws_first depth may_match [] rest first = first
raws_first depth may_match (line ∷ lines) rest first = tt

over_first : {R : Type 0} (left : R → List ℕ) (low n : ℕ) (texts : List (Option (OpenSource R))) (rest : List Thing)
    → ReadsFirst rest → ReadsFirst (things_over left low n texts rest)
over_first left low zero texts rest first = first
over_first left low (suc n) texts rest first = grind (arith, raws_first, over_first left low n texts rest first)

pub above_first : {R : Type 0} (left : R → List ℕ) (low : ℕ) (stack : Stack R) (rest : List Thing) → ReadsFirst rest
    → ReadsFirst (things_above left low stack rest)
above_first left low stack rest first = over_first left low _ stack.texts rest first

new_at_first : (code : Option Code) (depth : ℕ) (line : SourceLine) (lines : List SourceLine) (side : NewSide)
    (rest : List Thing) → ReadsFirst ((new_at code depth line lines side).things ++ rest)
new_at_first (Some end_side) depth line lines side rest = tt
new_at_first _ depth line lines side rest = tt

pub new_first : (depth : ℕ) (begin : Place) (lines : List SourceLine) (rest : List Thing)
    → ReadsFirst ((new_lines depth begin lines).things ++ rest)
new_first depth begin [] rest = tt
new_first depth begin (line ∷ lines) rest = grind (arith, new_at_first)

pub things_first : {R : Type 0} (left : R → List ℕ) (stage : Stage) (lines : List SourceLine) (stack : Stack R)
    → ReadsFirst (things_in left stage lines stack)
things_first left (Changing change) lines stack = grind (arith, above_first, new_first)
things_first left Seeking lines stack = above_first left 0 stack [] tt
things_first left _ lines stack = above_first left 0 stack [] tt

pub stopped_first : (stop : Stop) (Why : Type 0) (old new : SoFar) (all : List Event) → new ≡ old → ReadsNext all
    → (Why → (line : SourceLine) × ((later : List Event) × (all ≡ took line ∷ later))
    × RefusesLine stop old.count line) →
    StopsFor Why stop → Stopped stop old new all
stopped_first stop Why old new all same next first = grind (arith, yields_nothing)

pub stopped_by : (stop : Stop) (old new : SoFar) (world : World) (things : List Thing) (pending : Option WaitingEntry)
    (change : List SourceLine) (files : ℕ) → new ≡ old → ReadsFirst things
    → StopsFor (TopStops stop old.count things) stop
    → Stopped stop old new (merge world (state things pending change files))
stopped_by stop old new world things pending change files same first stops = stopped_first _ _ old new _ same
    (reads_next world things pending change files first) (λ top.
    let taken = merge_takes _ _ _ _ _ _ in (
      top.raw_line.source,
      (taken.0, ap (λ (ts : List Thing). merge world (state ts pending change files)) top.first ∙ taken.1),
      top.why,
    ))
    stops

pub reported_uncounted : {R : Type 0} (old new : MergeState R) → OnlyTakes old new
    → counters_of new.limits ≡ counters_of old.limits →
    so_far_of new ≡ so_far_of old
reported_uncounted old new only count = search rules

pub reported_stays : {R : Type 0} (old new : MergeState R) → OnlyTakes old new
    → (new.limits.lines ≡ old.limits.lines) × (new.limits.bytes ≡ old.limits.bytes) → so_far_of new ≡ so_far_of old
reported_stays old new only counted = search rules

pub unreported : (old new : SoFar) (all : List Event) → new.faults ≡ old.faults → new.names ≡ old.names
    → ReportsPrefix old new all
unreported old new all faults names = search rules

-- Memory was refused, and nothing was reported before.
pub stops_unreported : {A : Type 0} (result : Result A Stop) (old mid new : SoFar) (all : List Event)
    → mid.faults ≡ old.faults → mid.names ≡ old.names → IfErr result (λ stop. stop ≡ Memory)
    → OnErr result ((new.faults ≡ mid.faults) × (new.names ≡ mid.names))
    → IfErr result (λ stop. StopsThere stop old new all)
stops_unreported (Ok x) old mid new all faults names memory same = tt
stops_unreported (Err stop) old mid new all faults names memory same = grind (arith, unreported)
