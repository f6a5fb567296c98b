-- Scanning the lines of a merger.
use Rattle.cweb_scan.proofs.Common.{◌≡◌, ◌≤◌, ◌<◌, ℕ, ◌+◌, Bool, true, List, [], ◌∷◌, ◌++◌, length, ap, sym, ◌∙◌, subst, arith, nat_lt, ltb-true, lt-ltb, append-nil, append_assoc, All-push, All-weaker, Place, Line, HasNoNewline, Event, KeepsReported, SoFar, Stopped, StopsFor, emitted_lines, EmitsLine, Grows, StopsThere, LINES, BYTES, Stop, ReadFault, LineTooLong, TooMuchText, Memory, Token, Mark, IsLine, Reading, ReaderModel, read_after, new_reader, MarkPasses, web_size, Scanned, read_lines, scanned, scanned_of, AreLinesBelow, IsScanBelow, IsMarkBelow, HasTaken, ScansWithinLimits, Scans, StopsAfter, ScanEndsEarly}
use Rattle.cweb_files.specs.Shelves.{Observed, ShelfContents, ShelfModel}
use Rattle.cweb_lines.specs.surface.MergeProgress.{EmitsLines}
use Rattle.cweb_lines.proofs.ReportsOnlyGrow.{reported_then}
use Rattle.cweb_lines.proofs.Merges.{yields_nothing}
use Rattle.cweb_lines.proofs.EmittedLinesAddUp.{yields_both, after_both}
use Rattle.cweb_lines.proofs.WrittenLinesAddUp.{emitted_prefix, yields_all, tells_some, tells_more, tells_same}
use Rattle.cweb_scan.proofs.Bounds.{bounded}
use Rattle.cweb_scan.proofs.Places.{scanned-pass}

pub is_line : (t : List ℕ) → HasNoNewline t → IsLine t
is_line [] h = tt
is_line (b ∷ t) h = (h.0, is_line t h.1)

pub nothing_taken : {R : Type 0} (shelf : ShelfModel R) (so : SoFar) (all : ShelfContents R → List Event)
    → HasTaken shelf so so all all new_reader
nothing_taken shelf so all = grind (arith, yields_nothing)

pub web_size-append : (a b : List Line) → web_size (a ++ b) ≡ web_size a + web_size b
web_size-append [] b = omega arith
web_size-append (line ∷ a) b = omega (arith, web_size-append a b)

pub wider : (files more : ℕ) (lines : List Line) → files ≤ more → AreLinesBelow files lines → AreLinesBelow more lines
wider files more lines h below = grind arith

-- One more line.
pub emitted_line_taken : {R : Type 0} (shelf : ShelfModel R) (old so new : SoFar)
    (all now later : ShelfContents R → List Event) (pending next : ReaderModel) (line : Line)
    → HasTaken shelf old so all now pending → EmitsLine line.place line.bytes so new
    → length so.names ≤ length new.names
    → ((more : List Line) → read_after next more ≡ read_after pending (line ∷ more))
    → Observed shelf (λ seen. EmitsLines (line ∷ []) so new (now seen) (later seen))
    → HasTaken shelf old new all later next
emitted_line_taken shelf old so new all now later pending next line taken emitted names reads yields = record {
  lines = taken.lines ++ line ∷ [];
  read_is = grind (arith, append_assoc);
  below = All-push (λ (line : Line). line.place.file.0 < length new.names) taken.lines line
      (wider (length so.names) (length new.names) taken.lines names taken.below) emitted.known;
  few = omega (arith, web_size-append taken.lines (line ∷ []), taken.few, emitted.lines, emitted.bytes_are);
  yields = grind (arith, yields_both);
}

-- If all lines are in the first files, so are all Marks and faults.
abbrev among : ℕ → Place → Bool
among files p = nat_lt p.file.0 files

mark_below : (files : ℕ) (t : Token) → MarkPasses (among files) t → IsMarkBelow files t
mark_below files (Mark p) h = ltb-true p.file.0 files h
mark_below files t h = tt

scanned-below : (files : ℕ) (lines : List Line) → AreLinesBelow files lines → IsScanBelow files (scanned lines)
scanned-below files lines below =
    let known = All-weaker (λ (l : Line). l.place.file.0 < files)
    (λ l. among files l.place ≡ true) (λ l h. lt-ltb l.place.file.0 files h) lines below in
    let pass = scanned-pass (among files) lines known in
    record {
      marks = grind (arith, mark_below);
      faults = grind arith;
    }

-- The result of all lines that were taken.
of_taken : (pending : ReaderModel) (lines : List Line)
    → ((more : List Line) → read_after pending more ≡ read_lines (lines ++ more))
    → scanned_of (read_after pending []).state ≡ scanned lines
of_taken pending lines reads = ap (λ (r : Reading). scanned_of r.state) (reads [] ∙ ap read_lines (append-nil lines))

pub all_within : {R : Type 0} (shelf : ShelfModel R) (old so new : SoFar) (all now : ShelfContents R → List Event)
    (pending : ReaderModel) (s : Scanned) → HasTaken shelf old so all now pending
    → s ≡ scanned_of (read_after pending []).state
    → length so.names ≤ length new.names → so.count.bytes ≤ BYTES → so.count.lines ≤ LINES → ScansWithinLimits new s
all_within shelf old so new all now pending s taken is names few_bytes few_lines =
    grind (arith, of_taken, wider, scanned-below, bounded)

-- No line is left.
pub all_scanned : (old so new : SoFar) (all now later : List Event) (lines : List Line) (pending : ReaderModel)
    (s : Scanned)
    → ((more : List Line) → read_after pending more ≡ read_lines (lines ++ more))
    → web_size lines ≤ so.count.bytes + so.count.lines → EmitsLines lines old so all now
    → s ≡ scanned_of (read_after pending []).state → EmitsLines [] so new now later → later ≡ [] → Scans s old new all
all_scanned old so new all now later lines pending s reads few yields is last none =
    let whole = yields_both lines [] old so new all now later yields last in
    let here : emitted_lines all ≡ lines =
    emitted_prefix (lines ++ []) old new all later whole
    ∙ ap (λ (es : List Event). (lines ++ []) ++ emitted_lines es) none ∙ append-nil (lines ++ []) ∙ append-nil lines in
    let same : s ≡ scanned lines = is ∙ of_taken pending lines reads in
    let size = bounded lines in
    record {
      made = same ∙ ap scanned (sym here);
      yields = yields_all (lines ++ []) old new all later whole none;
      small = grind arith;
    }

-- The merger stopped.
pub ends_early : (stop : Stop) (old so new : SoFar) (all now : List Event) (lines : List Line)
    → EmitsLines lines old so all now → StopsThere stop so new now → ScanEndsEarly stop old new all
ends_early stop old so new all now lines yields there = record {
  why = by stop there.why;
  reported = tells_more lines old so new all now yields there.reported;
}
  where
    by : (stop : Stop) → Stopped stop so new now → StopsFor (StopsAfter stop old new all) stop
    by (ReadFault file) why = tt
    by (LineTooLong file) why = record {
      lines = lines ++ [];
      stops = after_both lines [] (LineTooLong file) old so new all now yields why;
    }
    by TooMuchText why =
        record { lines = lines ++ []; stops = after_both lines [] TooMuchText old so new all now yields why }
    by Memory why = tt
    by stop why = absurd why

-- An allocation failed.
pub refused : (old so halted : SoFar) (all now : List Event) (lines : List Line)
    → halted ≡ so → EmitsLines lines old so all now → ScanEndsEarly Memory old halted all
refused old so halted all now lines is yields = grind (arith, tells_same, tells_some)

-- The events so far only grow, also when the merger is halted afterwards.
pub grows_then : (a b c : SoFar) → KeepsReported a b → Grows b c → Grows a c
grows_then a b c reported grows = grind (arith, reported_then a b c reported grows.reported, grows.lines, grows.bytes)

pub grows_to : (a b c : SoFar) → c ≡ b → Grows a b → Grows a c
grows_to a b c same grows = subst (λ (s : SoFar). Grows a s) (sym same) grows
