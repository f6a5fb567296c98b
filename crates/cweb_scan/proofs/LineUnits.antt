-- The units of a literal in one line don't use the places of later lines.
use Rattle.cweb_scan.proofs.Common.{each_line_end, ◌≡◌, ℕ, List, [], ◌∷◌, refl, fold, Place, Reading, literal_unit, IsLine, unit_state, ScanState, arith}
use Rattle.cweb_rules.proofs.InLines.{AreLines}

-- A line has no newline that could move the place.
pub none-line : (f : Place → ScanState → ScanState) (t : List ℕ) (m : Reading) → IsLine t → each_line_end f t m ≡ m
none-line f [] m h = refl
none-line f (b ∷ t) m h = grind (arith, none-line f t m h.1)

abbrev pub reading : ScanState → List Place → Reading
reading s later = record { state = s; later = later }

one-unit : (s : ScanState) (later : List Place) (u : List ℕ) → IsLine u
    → literal_unit (reading s later) u ≡ reading (unit_state s u) later
one-unit s later u h = grind (arith, none-line)

-- Their effect on the state doesn't depend on the lines that follow.
pub units_line : (s : ScanState) (later : List Place) (us : List (List ℕ)) → AreLines us
    → fold literal_unit (reading s later) us ≡ reading (fold unit_state s us) later
units_line s later [] h = refl
units_line s later (u ∷ us) h = grind (arith, one-unit, units_line (unit_state s u) later us h.1)
