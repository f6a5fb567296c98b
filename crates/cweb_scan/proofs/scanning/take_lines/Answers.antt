use Rattle.cweb_lines.proofs.Errors.{same_error}
use Rattle.cweb_scan.proofs.Common.{◌≡◌, ◌≤◌, ◌+◌, ◌*◌, ℕ, None, Some, List, [], ◌∷◌, subst, refl, ap, sym, ◌∙◌, arith, BorrowsLines, Event, SoFar, so_far, to_come, Merger, Stop, ScanEndsEarly, HasTaken, ReaderModel, cost, read_after, yields_both}
use Rattle.cweb_files.specs.Shelves.{ShelfContents, ShelfModel}
use Rattle.cweb_lines.proofs.NoReadFails.{unread}
use Rattle.cweb_lines.proofs.ReportsOnlyGrow.{reported_files, reported_same, reported_then}
use Rattle.cweb_scan.proofs.Scans.{nothing_taken, emitted_line_taken, grows_to, grows_then, all_within, all_scanned, ends_early, refused}
use Rattle.cweb_scan.proofs.scanning.take_lines.Invariants.{HasScanned}
use Rattle.cweb_scan.proofs.scanning.take_lines.Goals as goal

-- The contents are the same after lines were taken.
still : {R : Type 0} {was now : ShelfModel R} {seen : ShelfContents R} → now ≡ was → was.contents ≡ Some seen
    → now.contents ≡ Some seen
still {R = R} same it = ap (λ (s : ShelfModel R). s.contents) same ∙ it

pub lines-init : goal.lines-init
lines-init g c = record {
  same = refl;
  readers = λ seen it known. known;
  running = c.requires.running;
  reported = reported_same _ _ refl refl;
  taken = rw c.requires.fresh (nothing_taken _ _ _);
  room = omega (arith, ap cost c.requires.fresh);
}

pub returns-in_err-place-clause-grows : goal.returns-in_err-place-clause-grows
returns-in_err-place-clause-grows g c = grows_then _ _ _ c.lines.invariant.reported c.in_err-place.ensures.grows

pub returns-in-Err-clause-grows : goal.returns-in-Err-clause-grows
returns-in-Err-clause-grows g c =
    grows_to _ _ _ c.halt.ensures.so_far (grows_then _ _ _ c.lines.invariant.reported c.in_ok-place.ensures.grows)

-- An allocation for a borrowed line failed.
pub returns-in-Err-take_borrowed-clause-grows : goal.returns-in-Err-take_borrowed-clause-grows
returns-in-Err-take_borrowed-clause-grows g c =
    grows_to _ _ _ c.halt-in-Err-take_borrowed.ensures.so_far (grows_then _ _ _
    (reported_then _ _ _ c.lines.invariant.reported c.in_ok-place.ensures.grows.reported)
    c.in-Err-take_borrowed.ensures.borrowed.grows)

pub returns-in-Err-take_borrowed-clause-stops : goal.returns-in-Err-take_borrowed-clause-stops
returns-in-Err-take_borrowed-clause-stops g c = λ seen it.
    let next = rw c.in-Some.is at (c.in_ok-place.ensures.next seen (still c.lines.invariant.same it)) in
    let borrowed = c.in-Err-take_borrowed.ensures.borrowed in
    let halt = c.halt-in-Err-take_borrowed in
    subst (λ (stop : Stop). ScanEndsEarly stop
    (so_far c.args.merger.now) (so_far halt.new.self) (to_come seen c.args.merger.now))
    (sym (halt.ensures.stop (borrowed.stopped ∙ c.in_ok-place.ensures.leaves.running)))
    (refused _ _ _ _ _ _ halt.ensures.so_far
    (yields_both _ _ _ _ _ _ _ _ (yields_both _ _ _ _ _ _ _ _ (c.lines.invariant.taken.yields seen it) next)
    (borrowed.yields seen.texts seen.left).1))

pub returns-in-Err-take_borrowed-clause-blamed : goal.returns-in-Err-take_borrowed-clause-blamed
returns-in-Err-take_borrowed-clause-blamed g c = grind (arith, unread)

-- The merger stopped.
pub returns-in_err-place-clause-stops : goal.returns-in_err-place-clause-stops
returns-in_err-place-clause-stops g c = grind (arith, same_error, ends_early, still)

pub returns-in_err-place-clause-reads : goal.returns-in_err-place-clause-reads
returns-in_err-place-clause-reads g c = rw (same_error _ _ c.from_residual.ensures.1) (rw c.lines.invariant.same at
    (c.in_err-place.ensures.blames c.lines.invariant.running).reads)

-- No read failed.
pub returns-in_default-clause-reads : goal.returns-in_default-clause-reads
returns-in_default-clause-reads g c =
    rw c.lines.invariant.same at (c.in_ok-place.ensures.blames c.lines.invariant.running).reads

pub returns-in-Err-clause-reads : goal.returns-in-Err-clause-reads
returns-in-Err-clause-reads g c = grind (arith, unread)

pub returns-in-Err-take_borrowed-clause-reads : goal.returns-in-Err-take_borrowed-clause-reads
returns-in-Err-take_borrowed-clause-reads g c = grind (arith, unread)

pub returns-in_err-place-clause-blames : goal.returns-in_err-place-clause-blames
returns-in_err-place-clause-blames g c = grind (arith, same_error)

-- An allocation for a line failed.
pub returns-in-Err-clause-stops : goal.returns-in-Err-clause-stops
returns-in-Err-clause-stops g c = λ seen it.
    let next = rw c.in-Some.is at (c.in_ok-place.ensures.next seen (still c.lines.invariant.same it)) in
    subst (λ (stop : Stop). ScanEndsEarly stop (so_far c.args.merger.now) (so_far c.halt.new.self)
    (to_come seen c.args.merger.now)) (sym (c.halt.ensures.stop c.in_ok-place.ensures.leaves.running))
    (refused _ _ _ _ _ _ c.halt.ensures.so_far (yields_both _ _ _ _ _ _ _ _
    (c.lines.invariant.taken.yields seen it) next))

-- Lines were borrowed.
after_borrowed : {S R : Type 0} (before now : ShelfModel R) (old merger new : Merger S R) (reader next : ReaderModel)
    → HasScanned before now old merger reader → BorrowsLines merger.run new.run → ((shelf : ShelfModel R)
    (first : SoFar) (all : ShelfContents R → List Event)
    → HasTaken shelf first (so_far merger) all (λ seen. to_come seen merger) reader
    → HasTaken shelf first (so_far new) all (λ seen. to_come seen new) next)
    → cost next ≤ 3 * ((so_far new).count.bytes + (so_far new).count.lines) → HasScanned before now old new next
after_borrowed before now old merger new reader next scanned borrowed taken room = record {
  same = scanned.same;
  readers = λ seen it known. borrowed.readers seen.opened_as (scanned.readers seen it known);
  running = borrowed.stopped ∙ scanned.running;
  reported = reported_then _ _ _ scanned.reported borrowed.grows.reported;
  taken = taken before (so_far old) (λ seen. to_come seen old) scanned.taken;
  room = room;
}

pub lines-preserved : goal.lines-preserved
lines-preserved g c =
    let emitted = rw c.in-Some.is at c.in_ok-place.ensures.emitted in
    let borrowed = c.in_default-take_borrowed.ensures in
    after_borrowed (g.S.Shelf.model c.args.shelf.now) (g.S.Shelf.model c.next_line.new.shelf) c.args.merger.now
    c.next_line.new.self c.take_borrowed.new.merger c.take_line.new.self c.take_borrowed.new.reader (record {
      same = (c.in_ok-place.ensures.blames c.lines.invariant.running).reads.1 ∙ c.lines.invariant.same;
      readers = λ seen it known. (c.in_ok-place.ensures.known seen (still c.lines.invariant.same it)
          (c.lines.invariant.readers seen it known)).readers;
      running = c.in_ok-place.ensures.leaves.running;
      reported = reported_then _ _ _ c.lines.invariant.reported c.in_ok-place.ensures.grows.reported;
      taken = emitted_line_taken _ _ _ _ _ _ _ _ _
          (record { bytes = c.next_line.new.line.items; place = c.in-Some.place }) c.lines.invariant.taken emitted
          (reported_files _ _ c.in_ok-place.ensures.grows.reported) (λ more. subst (λ (bytes : List ℕ). read_after
          c.take_line.new.self more ≡ read_after c.lines.reader (record { bytes = bytes; place = c.in-Some.place }
          ∷ more)) c.deref.ensures.value (c.in_default-take_line.ensures.read more)) (λ seen it.
          rw c.in-Some.is at (c.in_ok-place.ensures.next seen (still c.lines.invariant.same it)));
      room =
          omega (
            arith,
            c.in_default-take_line.ensures.adds,
            c.deref.ensures.len,
            c.lines.invariant.room,
            emitted.lines,
            emitted.bytes_are,
          );
    }) borrowed.borrowed borrowed.taken borrowed.cost

-- The file that a stop blames.
pub returns-in_err-place-clause-blamed : goal.returns-in_err-place-clause-blamed
returns-in_err-place-clause-blamed g c = grind (arith, same_error, still)

pub returns-in-Err-clause-blamed : goal.returns-in-Err-clause-blamed
returns-in-Err-clause-blamed g c = grind (arith, unread)

-- At least one line was taken.
pub lines-smaller : goal.lines-smaller
lines-smaller g c =
    let emitted = rw c.in-Some.is at c.in_ok-place.ensures.emitted in
    let borrowed = c.in_default-take_borrowed.ensures.borrowed in
    omega (
      arith,
      emitted.lines,
      (borrowed.yields (λ _. None) (λ _. [])).1.lines_are,
      c.next_line.new.self.run.limits.few,
    )

-- No line is left.
pub returns-in_default-clause-scans : goal.returns-in_default-clause-scans
returns-in_default-clause-scans g c = λ seen it.
    let next = rw c.in_default.is at (c.in_ok-place.ensures.next seen (still c.lines.invariant.same it)) in
    let taken = c.lines.invariant.taken in
    all_scanned _ _ _ _ _ _ _ c.lines.reader _ taken.read_is taken.few (taken.yields seen it) refl next.0 next.1

pub returns-in_default-clause-within : goal.returns-in_default-clause-within
returns-in_default-clause-within g c =
    let limits = c.lines.merger.run.limits in
    all_within _ _ _ _ _ _ c.lines.reader _ c.lines.invariant.taken refl
    (reported_files _ _ c.in_ok-place.ensures.grows.reported) limits.small limits.few

pub returns-in_default-clause-grows : goal.returns-in_default-clause-grows
returns-in_default-clause-grows g c = grows_then _ _ _ c.lines.invariant.reported c.in_ok-place.ensures.grows

pub returns-in_default-clause-blamed : goal.returns-in_default-clause-blamed
returns-in_default-clause-blamed g c = λ seen it known.
    (c.in_ok-place.ensures.blames c.lines.invariant.running).reads.1 ∙ c.lines.invariant.same
