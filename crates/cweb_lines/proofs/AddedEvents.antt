-- Taken lines and reported faults as events of a merge.
use Rattle.cweb_lines.proofs.Common.{◌≡◌, ℕ, List, [], ◌∷◌, ◌++◌, refl, arith, map, append-nil, append_assoc, Place, Line, Event, took, emitted, fault, opening, SoFar, EmitsLines, ReadsNext, ReportsPrefix, StopsAfterLines, Stopped, CountsLine, emitted_lines, reported_faults, openings, taken_lines, SourceFault, Stop, ReadFault, LineTooLong, TooMuchText, Memory, rules}

-- A line was taken.
pub takes_one : (old new : SoFar) (bytes : List ℕ) (place : Place) (t : CountsLine bytes place old.count new.count)
    (later : List Event) → new.faults ≡ old.faults → new.names ≡ old.names
    → EmitsLines [] old new (took t.line ∷ later) later
takes_one old new bytes place t later faults names = record {
  events = took t.line ∷ [];
  whole = refl;
  emitted = refl;
  faults = simp (faults, append-nil);
  names = simp (names, append-nil);
  lines_are = omega (arith, t.lines);
  bytes_are = omega (arith, t.bytes_are);
  short = (t.short, tt);
}

pub emitted-faults : (faults : List SourceFault) → emitted_lines (map fault faults) ≡ []
emitted-faults [] = refl
emitted-faults (f ∷ faults) = emitted-faults faults

reported-faults : (faults : List SourceFault) → reported_faults (map fault faults) ≡ faults
reported-faults [] = refl
reported-faults (f ∷ faults) = simp (reported-faults faults)

opened-faults : (faults : List SourceFault) → openings (map fault faults) ≡ []
opened-faults [] = refl
opened-faults (f ∷ faults) = opened-faults faults

taken-faults : (faults : List SourceFault) → taken_lines (map fault faults) ≡ []
taken-faults [] = refl
taken-faults (f ∷ faults) = taken-faults faults

-- Faults were reported.
pub reports : (faults : List SourceFault) (old new : SoFar) (later : List Event) → new.faults ≡ old.faults ++ faults
    → new.names ≡ old.names → new.count ≡ old.count → EmitsLines [] old new (map fault faults ++ later) later
reports faults old new later reported names count =
    grind (arith, emitted-faults, reported-faults, opened-faults, append-nil, taken-faults)

-- A prefix of the faults was reported.
pub reports_some : (faults : List SourceFault) (old new : SoFar) (later : List Event)
    → new.faults ≡ old.faults ++ faults → new.names ≡ old.names → ReportsPrefix old new (map fault faults ++ later)
reports_some faults old new later reported names = grind (arith, reported-faults, opened-faults, append-nil)

reads-append : (events more : List Event) → ReadsNext events → ReadsNext more → ReadsNext (events ++ more)
reads-append [] more first then = then
reads-append (took line ∷ events) more first then = tt
reads-append (fault f ∷ events) more first then = first
reads-append (emitted line ∷ events) more first then = absurd first
reads-append (opening name ∷ events) more first then = absurd first

-- More events follow.
module _ {old new : SoFar} {all : List Event} (more : List Event) where
  pub yields_more : {lines : List Line} {now : List Event} → EmitsLines lines old new all now
      → EmitsLines lines old new (all ++ more) (now ++ more)
  yields_more yields = grind (arith, append_assoc)

  pub prefix_more : ReportsPrefix old new all → ReportsPrefix old new (all ++ more)
  prefix_more prefix = grind (arith, append_assoc)

  after_more : {stop : Stop} → StopsAfterLines [] stop old new all → StopsAfterLines [] stop old new (all ++ more)
  after_more stops = search (rules, yields_more)

pub stopped_more : (stop : Stop) (old new : SoFar) (all more : List Event) → ReadsNext more → Stopped stop old new all
    → Stopped stop old new (all ++ more)
stopped_more (ReadFault file) old new all more reads stopped =
    grind (arith, yields_more more stopped.yields, reads-append stopped.later more stopped.next reads)
stopped_more (LineTooLong file) old new all more reads stopped = after_more more stopped
stopped_more TooMuchText old new all more reads stopped = after_more more stopped
stopped_more Memory old new all more reads stopped = tt
stopped_more stop old new all more reads stopped = absurd stopped
