-- The old side of a change, line by line.
use Rattle.cweb_lines.proofs.Common.{rules, ◌≡◌, ◌+◌, ◌||◌, ℕ, Bool, false, List, [], ◌∷◌, ◌++◌, Some, None, Option, refl, sym, ◌∙◌, ap, subst, append_assoc, map, Place, OldSide, at_place, change_code, change_events, closing_faults, dropping, old_after, old_at, old_lines, SourceLine, Thing, raw, seek, reported, passed, Event, took, fault, SoFar, EmitsLines, ReadsNext, StopsAfterLines, StopsOldSide, Compares, IsReplaced, Replaces, FirstStops, CountsLine, TopStops, RefusesLine, Code, WantsY, Replaced, StopsFor, Stop, ReadFault, LineTooLong, TooMuchText, Memory, arith, common_steps}
use Rattle.cweb_lines.specs.declared.change.code.Code.TheVariants.{NewSide as new_side}
use Rattle.cweb_lines.proofs.AddedEvents.{takes_one, yields_more}
use Rattle.cweb_lines.proofs.EmittedLinesAddUp.{yields_both}
use Rattle.cweb_lines.proofs.Merges.{yields_fault}
use Rattle.cweb_lines.proofs.Codes.{old_code_at}

-- The rest is equal.
pub replaces_same : (all : OldSide) (so_far : Replaced) (ls ls' : List SourceLine) (ts ts' : List Thing)
    (old new : SoFar) → ls ≡ ls' → ts ≡ ts' → Replaces all (old_lines ls ts) so_far old new
    → Replaces all (old_lines ls' ts') so_far old new
replaces_same all so_far ls ls' ts ts' old new l t r = rw (l, t) at r

pub is_replaced_same : (all : OldSide) (so_far : Replaced) (ended : Bool) (ls : List SourceLine) (ts ts' : List Thing)
    (old new : SoFar) → ended ≡ so_far.ended → ts ≡ ts'
    → IsReplaced all (record { unequal = so_far.unequal; ran_out = so_far.ran_out; ended = ended }) ls ts old new
    → IsReplaced all so_far ls ts' old new
is_replaced_same all so_far ended ls ts ts' old new e t r = rw (e, t) at r

pub compares_same : (bytes bytes' : List ℕ) (so_far after : Replaced) (ts ts' us : List Thing) (old new : SoFar) → bytes
    ≡ bytes' → ts ≡ ts' → Compares bytes so_far after ts us old new → Compares bytes' so_far after ts' us old new
compares_same bytes bytes' so_far after ts ts' us old new b t r = rw (b, t) at r

-- The next event of this side takes a line, or the change file has ended.
abbrev Reads : OldSide → Type 0
Reads side = (begin : Place) (ran_out : Bool) (unequal : ℕ) (later : List Event)
    → ReadsNext (side.events ++ (map fault (closing_faults begin side.ended ran_out unequal) ++ later))

reads_old : (lines : List SourceLine) (things : List Thing) → Reads (old_lines lines things)
reads_old [] things begin ran_out unequal later = tt
reads_old (line ∷ lines) things begin ran_out unequal later = tt

reads_dropping : (bytes : List ℕ) (things : List Thing) (lines : List SourceLine)
    → Reads (dropping bytes things (λ rest. old_lines lines rest))
reads_dropping bytes [] lines begin ran_out unequal later = reads_old lines [] begin ran_out unequal later
reads_dropping bytes (raw r ∷ things) lines begin ran_out unequal later = tt
reads_dropping bytes (seek ∷ things) lines begin ran_out unequal later =
    reads_dropping bytes things lines begin ran_out unequal later
reads_dropping bytes (reported f ∷ things) lines begin ran_out unequal later =
    reads_dropping bytes things lines begin ran_out unequal later
reads_dropping bytes (passed line ∷ things) lines begin ran_out unequal later =
    reads_dropping bytes things lines begin ran_out unequal later

module _ (all now : OldSide) (so_far : Replaced) (old mid : SoFar) (r : Replaces all now so_far old mid) where
  -- The faults of the side as a whole, and what follows.
  abbrev after : Place → List Event → List Event
  after begin later = map fault (closing_faults begin all.ended all.ran_out all.unequal) ++ later

  yields_in : (begin : Place) (later : List Event) (new : SoFar) → new ≡ mid
      → EmitsLines [] old new (change_events begin all ++ later) (now.events ++ after begin later)
  yields_in begin later new same = grind (arith, append_assoc, yields_more)

  stops_at : (stop : Stop) (new : SoFar) → new ≡ mid → (line : SourceLine) (more : List Event)
      → now.events ≡ took line ∷ more → RefusesLine stop mid.count line → (begin : Place) (later : List Event)
      → StopsAfterLines [] stop old new (change_events begin all ++ later)
  stops_at stop new same line more first why begin later = grind (arith, common_steps, yields_in)

  -- A line of this side can't be taken.
  side_stops : (stop : Stop) (new : SoFar) (Why : Type 0) → new ≡ mid → Reads now
      → (Why → (line : SourceLine) × ((more : List Event) × (now.events ≡ took line ∷ more))
      × RefusesLine stop mid.count line) → StopsFor Why stop → StopsOldSide stop old new all
  side_stops (ReadFault file) new Why same reads first why begin later = grind (arith, common_steps, yields_in)
  side_stops (LineTooLong file) new Why same reads first why begin later = grind (arith, common_steps, stops_at)
  side_stops TooMuchText new Why same reads first why begin later =
      let at = first why in stops_at _ new same at.0 at.1.0 at.1.1 at.2 begin later
  side_stops Memory new Why same reads first why begin later = tt
  side_stops stop new Why same reads first why begin later = absurd why

  -- A line was taken.
  replaces_took : (side : OldSide) (new : SoFar) (bytes : List ℕ) (place : Place)
      (t : CountsLine bytes place mid.count new.count) → new.faults ≡ mid.faults → new.names ≡ mid.names
      → now ≡ old_after (took t.line) side → Replaces all side so_far old new
  replaces_took side new bytes place t faults names is = record {
    yields = yields_both [] [] old mid new _ _ _ r.yields (subst (λ (o : OldSide).
        EmitsLines [] mid new o.events side.events) (sym is)
        (takes_one mid new bytes place t side.events faults names));
    unequal = r.unequal ∙ ap (λ (o : OldSide). so_far.unequal + o.unequal) is;
    ran_out = r.ran_out ∙ ap (λ (o : OldSide). so_far.ran_out || o.ran_out) is;
    ended = r.ended ∙ ap (λ (o : OldSide). o.ended) is;
    rest = r.rest ∙ ap (λ (o : OldSide). o.rest) is;
    things = r.things ∙ ap (λ (o : OldSide). o.things) is;
  }

  -- The side has ended.
  pub replaces_done : (new : SoFar) (ended : Bool) (rest : List SourceLine) (things : List Thing) → new ≡ mid
      → now ≡ record { events = []; unequal = 0; ran_out = false; ended = ended; rest = rest; things = things }
      → IsReplaced all (record { unequal = so_far.unequal; ran_out = so_far.ran_out; ended = ended }) rest things old
      new
  replaces_done new ended rest things same is = search rules

module _ (all : OldSide) (so_far : Replaced) (lines : List SourceLine) (raws : List Thing) (old mid : SoFar)
    (r : Replaces all (old_lines lines raws) so_far old mid) where
  pub replaces_ends : (stop : Stop) (new : SoFar) → new ≡ mid → StopsFor (FirstStops stop mid.count lines) stop
      → StopsOldSide stop old new all
  replaces_ends stop new same = side_stops all (old_lines lines raws) so_far old mid r stop new
      (FirstStops stop mid.count lines) same (reads_old lines raws) (λ stops. (
        stops.line,
        (_, ap (λ ls. (old_lines ls raws).events) stops.first),
        stops.why,
      ))

  -- A line of the change file was taken.
  module _ (now : SoFar) (bytes : List ℕ) (place : Place) (t : CountsLine bytes place mid.count now.count)
      (rest : List SourceLine) (is : lines ≡ t.line ∷ rest) (reported : now.faults ≡ mid.faults)
      (names : now.names ≡ mid.names) where
    taken : (code : Option Code) → change_code bytes ≡ code → Replaces all
        (old_at code (record { bytes = bytes; place = place }) rest raws (λ ts. old_lines rest ts)) so_far old now
    taken code test = replaces_took all (old_lines lines raws) so_far old mid r _ now bytes place t reported names
        (ap (λ ls. old_lines ls raws) is ∙ old_code_at code t.line rest raws bytes place t.is test)

    pub replaces_code : (code : Code) (new : SoFar) → change_code bytes ≡ Some code
        → old_at (Some code) (record { bytes = bytes; place = place }) rest raws (λ ts. old_lines rest ts)
        ≡ old_after (fault (at_place WantsY place)) (old_lines rest raws)
        → new.faults ≡ now.faults ++ at_place WantsY place ∷ [] → new.names ≡ now.names → new.count ≡ now.count
        → Replaces all (old_lines rest raws) so_far old new
    replaces_code code new test faulty reported' names' count =
        let r' : Replaces all (old_after (fault (at_place WantsY place)) (old_lines rest raws)) so_far old now =
        subst (λ (o : OldSide). Replaces all o so_far old now) faulty (taken (Some code) test) in
        record {
          yields = yields_both [] [] old now new _ _ _ r'.yields
              (yields_fault now new _ _ count (at_place WantsY place) refl reported' names');
          unequal = r'.unequal;
          ran_out = r'.ran_out;
          ended = r'.ended;
          rest = r'.rest;
          things = r'.things;
        }

    pub replaces_line : (after : Replaced) (raws' : List Thing) (new : SoFar) → change_code bytes ≡ None →
        Compares bytes so_far after raws raws' now new → Replaces all (old_lines rest raws') after old new
    replaces_line after raws' new test by = by old all (λ ts. old_lines rest ts) (taken None test)

    -- The raw line that an old line would drop can't be taken.
    pub raw_ends : (stop : Stop) (new : SoFar) → new ≡ now → change_code bytes ≡ None
        → StopsFor (TopStops stop now.count raws) stop → StopsOldSide stop old new all
    raw_ends stop new same test = side_stops all (dropping bytes raws (λ ts. old_lines rest ts)) so_far old now
        (taken None test) stop new (TopStops stop now.count raws) same (reads_dropping bytes raws rest) (λ stops. (
          stops.raw_line.source,
          (_, ap (λ (ts : List Thing). (dropping bytes ts (λ us. old_lines rest us)).events) stops.first),
          stops.why,
        ))

    pub replaces_new : change_code bytes ≡ Some new_side → IsReplaced all
        (record { unequal = so_far.unequal; ran_out = so_far.ran_out; ended = false }) rest raws old now
    replaces_new test =
        replaces_done all _ so_far old now (taken (Some new_side) test) now false rest raws refl refl
