-- The events of consecutive calls are concatenated.
use Rattle.cweb_lines.proofs.Common.{◌≡◌, ◌+◌, ℕ, List, [], ◌∷◌, ◌++◌, refl, ◌∙◌, ap, arith, length, length-append, append_assoc, Place, Line, SourceLine, Event, took, emitted, fault, opening, SoFar, EmitsLines, EmitsAfterLine, Stopped, StopsAfterLines, ReadFailsAfterLines, CountsLine, emitted_lines, reported_faults, openings, taken_lines, size_of_lines, AreShort, Stop, ReadFault, LineTooLong, TooMuchText, Memory}

pub yields_took : (lines : List Line) (old mid new : SoFar) (bytes : List ℕ)
    (place : Place) (t : CountsLine bytes place old.count mid.count) (first all later : List Event)
    → mid.faults ≡ old.faults
    → mid.names ≡ old.names → first ≡ all → EmitsAfterLine t.line lines mid new all later
    → EmitsLines lines old new first later
yields_took lines old mid new bytes place t first all later faults names is g = record {
  events = took t.line ∷ g.yields.events;
  whole = simp (is, g.first, g.yields.whole);
  emitted = g.yields.emitted;
  faults = simp (g.yields.faults, faults);
  names = simp (g.yields.names, names);
  lines_are = omega (arith, g.yields.lines_are, t.lines);
  bytes_are = omega (arith, g.yields.bytes_are, t.bytes_are);
  short = (t.short, g.yields.short);
}

pub emitted-append : (a b : List Event) → emitted_lines (a ++ b) ≡ emitted_lines a ++ emitted_lines b
emitted-append [] b = refl
emitted-append (emitted l ∷ a) b = simp (emitted-append a b)
emitted-append (_ ∷ a) b = emitted-append a b

pub reported-append : (a b : List Event) → reported_faults (a ++ b) ≡ reported_faults a ++ reported_faults b
reported-append [] b = refl
reported-append (fault f ∷ a) b = simp (reported-append a b)
reported-append (_ ∷ a) b = reported-append a b

pub openings-append : (a b : List Event) → openings (a ++ b) ≡ openings a ++ openings b
openings-append [] b = refl
openings-append (opening n ∷ a) b = simp (openings-append a b)
openings-append (_ ∷ a) b = openings-append a b

pub taken-append : (a b : List Event) → taken_lines (a ++ b) ≡ taken_lines a ++ taken_lines b
taken-append [] b = refl
taken-append (took l ∷ a) b = simp (taken-append a b)
taken-append (_ ∷ a) b = taken-append a b

pub size-append : (a b : List SourceLine) → size_of_lines (a ++ b) ≡ size_of_lines a + size_of_lines b
size-append [] b = omega arith
size-append (l ∷ a) b = omega (arith, size-append a b)

pub short-append : (a b : List SourceLine) → AreShort a → AreShort b → AreShort (a ++ b)
short-append [] b none short = short
short-append (l ∷ a) b short short' = (short.0, short-append a b short.1 short')

pub lines_taken-append : (a b : List Event) → length (taken_lines (a ++ b)) ≡ length (taken_lines a) + length
    (taken_lines b)
lines_taken-append a b = ap (λ (ls : List SourceLine). length ls) (taken-append a b) ∙ length-append _ _

pub bytes_taken-append : (a b : List Event)
    → size_of_lines (taken_lines (a ++ b)) ≡ size_of_lines (taken_lines a) + size_of_lines
    (taken_lines b)
bytes_taken-append a b = ap size_of_lines (taken-append a b) ∙ size-append (taken_lines a) (taken_lines b)

pub yields_both : (lines more : List Line) (old mid new : SoFar) (all now later : List Event) →
    EmitsLines lines old mid all now → EmitsLines more mid new now later → EmitsLines (lines ++ more) old new all later
yields_both lines more old mid new all now later a b = record {
  events = a.events ++ b.events;
  whole = simp (a.whole, b.whole, append_assoc);
  emitted = simp (emitted-append, a.emitted, b.emitted);
  faults = simp (b.faults, a.faults, reported-append, append_assoc);
  names = simp (b.names, a.names, openings-append, append_assoc);
  lines_are = omega (arith, a.lines_are, b.lines_are, lines_taken-append a.events b.events);
  bytes_are = omega (arith, a.bytes_are, b.bytes_are, bytes_taken-append a.events b.events);
  short = grind (arith, taken-append, short-append);
}

pub after_both : (lines more : List Line) (stop : Stop) (old mid new : SoFar) (all rest : List Event) →
    EmitsLines lines old mid all rest → StopsAfterLines more stop mid new rest
    → StopsAfterLines (lines ++ more) stop old new all
after_both lines more stop old mid new all rest yields stops = grind (arith, yields_both)

pub reads_both : (lines more : List Line) (old mid new : SoFar) (all rest : List Event) →
    EmitsLines lines old mid all rest → ReadFailsAfterLines more mid new rest
    → ReadFailsAfterLines (lines ++ more) old new all
reads_both lines more old mid new all rest yields reads = grind (arith, yields_both)

pub stopped_after : (stop : Stop) (old mid new : SoFar) (all rest : List Event) → EmitsLines [] old mid all rest →
    Stopped stop mid new rest → Stopped stop old new all
stopped_after (ReadFault file) old mid new all rest yields = reads_both [] [] old mid new all rest yields
stopped_after (LineTooLong file) old mid new all rest yields = after_both [] [] _ old mid new all rest yields
stopped_after TooMuchText old mid new all rest yields = after_both [] [] _ old mid new all rest yields
stopped_after Memory old mid new all rest yields = λ stopped. tt
stopped_after stop old mid new all rest yields = λ stopped. absurd stopped
