-- The search for an entry, line by line.
use Rattle.cweb_lines.proofs.Common.{◌≡◌, ℕ, List, [], ◌∷◌, ◌++◌, Option, Some, None, refl, sym, ◌∙◌, ap, subst, append-nil, map, Place, Sought, sought, SourceLine, Event, took, fault, reported_faults, SoFar, EmitsLines, ReadsNext, ReportsPrefix, StopsAfterLines, Stopped, Searched, SeeksTo, LooksInPart, search_after, IsOutside, FirstStops, CountsLine, SourceFault, Stage, Done, Waiting, StopsFor, Stop, ReadFault, LineTooLong, TooMuchText, Memory, arith}
use Rattle.cweb_lines.specs.inner.MergeProgress.{LooksAt}
use Rattle.cweb_lines.specs.declared.change.seek.Look.TheVariants.{Entry as first_line, On as goes_on}
use Rattle.cweb_lines.proofs.AddedEvents.{takes_one, reports, reports_some}
use Rattle.cweb_lines.proofs.EmittedLinesAddUp.{yields_both}
use Rattle.cweb_lines.proofs.WrittenLinesAddUp.{tells_more}

sought_takes : (line : SourceLine) (lines : List SourceLine) (begin : Option Place) →
    (more : List Event) × ((sought (line ∷ lines) begin).events ≡ took line ∷ more)
sought_takes line lines None = (_, refl)
sought_takes line lines (Some begin) = (_, refl)

reads_sought : (lines : List SourceLine) (begin : Option Place) → ReadsNext (sought lines begin).events
reads_sought [] None = tt
reads_sought (line ∷ lines) None = tt
reads_sought _ _ = tt

module _ (all : Sought) (lines : List SourceLine) (begin : Option Place) (old mid : SoFar)
    (seeks : SeeksTo all (sought lines begin) old mid) where
  seeks_stop : (stop : Stop) (new : SoFar) → new ≡ mid → FirstStops stop mid.count lines →
      StopsAfterLines [] stop old new all.events
  seeks_stop stop new same stops = grind (arith, sought_takes)

  pub seeks_ends : (stop : Stop) (new : SoFar) → new ≡ mid → StopsFor (FirstStops stop mid.count lines) stop →
      Stopped stop old new all.events
  seeks_ends (ReadFault file) new same stops = grind (arith, reads_sought)
  seeks_ends (LineTooLong file) new same stops = seeks_stop _ new same stops
  seeks_ends TooMuchText new same stops = seeks_stop _ new same stops
  seeks_ends Memory new same stops = tt
  seeks_ends stop new same stops = absurd stops

  -- A line was taken and looked at.
  module _ (now new : SoFar) (bytes : List ℕ) (place : Place) (t : CountsLine bytes place mid.count now.count)
      (rest : List SourceLine) (is : lines ≡ t.line ∷ rest) (same_faults : now.faults ≡ mid.faults)
      (same_names : now.names ≡ mid.names) (names : new.names ≡ now.names) where
    -- The line was taken, and these events follow.
    taken : (later : List Event) → (sought (t.line ∷ rest) begin).events ≡ took t.line ∷ later
        → EmitsLines [] old now all.events later
    taken later first = yields_both [] [] old mid now _ _ _ seeks.yields (subst (λ (es : List Event).
        EmitsLines [] mid now es later) (sym (ap (λ ls. (sought ls begin).events) is ∙ first))
        (takes_one mid now bytes place t later same_faults same_names))

    pub seeks_in_part : LooksInPart t.line (sought (t.line ∷ rest) begin).events now.faults new.faults
        → ReportsPrefix old new all.events
    seeks_in_part part = tells_more [] old now new _ _ (taken (map fault part.prefix ++ part.rest) part.whole)
        (reports_some part.prefix now new part.rest part.reported names)

    module _ (count : new.count ≡ now.count) where
      looked : (faults : List SourceFault) (found : Sought)
          → sought (t.line ∷ rest) begin ≡ search_after t.line faults found → new.faults ≡ now.faults ++ faults
          → SeeksTo all found old new
      looked faults found whole reported =
          let same : sought lines begin ≡ search_after t.line faults found = ap (λ ls. sought ls begin) is ∙ whole in
          record {
            yields = yields_both [] [] old now new _ _ _
                (taken (map fault faults ++ found.events) (ap (λ (s : Sought). s.events) whole))
                (reports faults now new found.events reported names count);
            entry = seeks.entry ∙ ap (λ (s : Sought). s.entry) same;
            rest = seeks.rest ∙ ap (λ (s : Sought). s.rest) same;
          }

      pub seeks_on : (next : Option Place) → LooksAt (goes_on next) begin bytes place now.faults new.faults →
          SeeksTo all (sought rest next) old new
      seeks_on next looks = looked looks.reported (sought rest next) (looks.looks t.line t.is rest) looks.faults

      pub seeks_found : (entry : Place) → LooksAt (first_line entry) begin bytes place now.faults new.faults →
          Searched all old new (Waiting entry) bytes rest
      seeks_found entry looks =
          let found = looked looks.reported _ (looks.looks t.line t.is rest) looks.faults in
          record {
            yields = found.yields;
            outside = tt;
            entry = sym (simp (found.entry, t.is));
            rest = sym found.rest;
          }

-- The end of the change file.
sought_none : (begin : Option Place) → (sought [] begin).events ≡ map fault (reported_faults (sought [] begin).events)
sought_none None = refl
sought_none (Some place) = refl

none_found : (begin : Option Place) → ((sought [] begin).entry ≡ None) × ((sought [] begin).rest ≡ [])
none_found None = (refl, refl)
none_found (Some place) = (refl, refl)

pub seeks_ended : (all : Sought) (lines : List SourceLine) (begin : Option Place) (old mid : SoFar)
    → SeeksTo all (sought lines begin) old mid → lines ≡ [] → (new : SoFar)
    → new.faults ≡ mid.faults ++ reported_faults (sought [] begin).events → new.names ≡ mid.names
    → new.count ≡ mid.count
    → (stage : Stage) → stage ≡ Done → (first : List ℕ) (left : List SourceLine) → Searched all old new stage first left
seeks_ended all lines begin old mid seeks none new faults names count stage done first left =
    let last = sought [] begin in
    let are = ap (λ ls. (sought ls begin).events) none ∙ sought_none begin in
    record {
      yields = yields_both [] [] old mid new _ _ _ seeks.yields (subst (λ (es : List Event).
          EmitsLines [] mid new es []) (append-nil _ ∙ sym are) (reports
          (reported_faults last.events) mid new [] faults names count));
      outside = subst IsOutside (sym done) tt;
      entry = simp (done, seeks.entry, none, (none_found begin).0);
      rest = simp (done, seeks.rest, none, (none_found begin).1);
    }
