-- The start of a line for any reader, and the end of the source.
use Rattle.cweb_scan.proofs.Common.{◌≡◌, ◌≤◌, ℕ, Bool, true, false, List, ◌∷◌, refl, subst, arith, Place, Line, line_end, ReaderModel, OpenItem, Between, Pending, is_pending, read_after, source_ended, BeginsLine, TakesLineEnd, TakesBytes, cost, weight, drop, ScanState}
use Rattle.cweb_scan.proofs.FirstMatchTaken.{between}
use Rattle.cweb_scan.proofs.PendingItems.{pending-weight}
use Rattle.cweb_scan.proofs.LineEnds.{run-newline}
use Rattle.cweb_scan.proofs.Taken.{first_taken, next_taken}
use Rattle.cweb_scan.proofs.Weights.{line_end-weight}

-- A newline between two items.
pub line_ends : (q : Place) (line : List ℕ) (s : ScanState) (g : Bool) → g ≡ true
    → TakesLineEnd q line 0 (between s g) (between (line_end q s) g)
line_ends q line s g begun = grind (arith, run-newline)

pub not_pending : (i : OpenItem) → is_pending i ≡ false → i ≡ Between
not_pending Between h = refl
not_pending (Pending text ps) h = cc

-- A line begins after a newline.
begins_between : (q : Place) (line : List ℕ) (s new : ScanState) (g : Bool) → g ≡ true → new ≡ line_end q s
    → BeginsLine q line 0 (between s g) (between new g)
begins_between q line s new g begun is = grind (arith, line_ends, line_end-weight)

pub begins_next : (q : Place) (line : List ℕ) (h v : ReaderModel) (new : ScanState) → v ≡ h → h.begun ≡ true
    → is_pending h.item ≡ false → new ≡ line_end q v.state
    → BeginsLine q line 0 h (record { state = new; item = v.item; begun = v.begun })
begins_next q line h v new is begun loose made = grind (arith, not_pending, begins_between)

-- A line that has begun is taken once its bytes are.
pub line_taken : (old mid new : ReaderModel) (line : Line) (n : ℕ) (lines : List Line)
    → BeginsLine line.place line.bytes n old mid → TakesBytes (drop n line.bytes) mid new
    → read_after new lines ≡ read_after old (line ∷ lines)
line_taken old mid new line n lines begins took = by old.begun refl
  where
    by : (b : Bool) → old.begun ≡ b → read_after new lines ≡ read_after old (line ∷ lines)
    by true h = next_taken old mid new line n lines h (begins.next h) took
    by false h = first_taken old mid new line lines h (begins.first h).1
        (subst (λ k. TakesBytes (drop k line.bytes) mid new) (begins.first h).0 took)

ended-weight : (i : OpenItem) (s : ScanState) (g : Bool)
    → (let h : ReaderModel = record { state = s; item = i; begun = g }
    in weight (source_ended h) ≤ cost h)
ended-weight Between s g = omega arith
ended-weight (Pending text ps) s g = pending-weight text ps s

pub source_ended-weight : (h : ReaderModel) → weight (source_ended h) ≤ cost h
source_ended-weight h = ended-weight h.item h.state h.begun
