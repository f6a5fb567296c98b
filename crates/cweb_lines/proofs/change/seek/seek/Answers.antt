use Rattle.cweb_lines.proofs.Common.{rules, ◌≡◌, ℕ, [], ◌∷◌, List, Vec, Global, None, refl, ap, sym, subst, sought, counters_of, SourceLine, change_lines, so_far_of, opened_file_names, Searched, SeeksTo, LooksInPart, reported_faults, lines_at, SourceFault, Waiting, arith, same_error}
use Rattle.cweb_lines.proofs.ReadersStayNamed.{knows_same}
use Rattle.cweb_lines.proofs.ReportsOnlyGrow.{reported_if, took_faults, took_names}
use Rattle.cweb_lines.proofs.NoReadFails.{Quiet, quiet_same, outcome_memory, reads_none, reads_reported, reads_set, reads_then, still_seen}
use Rattle.cweb_lines.proofs.Seeks.{seeks_ended, seeks_ends, seeks_in_part, seeks_on, seeks_found}
use Rattle.cweb_lines.proofs.Stops.{reported_stays}
use Rattle.cweb_lines.proofs.WrittenLinesAddUp.{tells_same, tells_some}
use Rattle.cweb_lines.proofs.change.seek.seek.Given as given
use Rattle.cweb_lines.proofs.change.seek.seek.Goals as goal
use Rattle.cweb_lines.proofs.change.seek.seek.Goals.{In_ok-at, In_ok-looked, In_err-looked}

quiet : (g : given.Over) (c : In_ok-at g) → Quiet (g.S.Shelf.model c.args.shelf.now)
    (g.S.Shelf.model c.take_change.new.shelf) c.args.run.now
    c.take_change.new.run
quiet g c = reads_then c.lines.invariant.quiet c.in_ok-at.ensures.takes.reads

pub lines-init : goal.lines-init
lines-init g c = record {
  quiet = quiet_same _ _;
  frame = search rules;
  begun = search rules;
  seeks = search rules;
}

looked : (g : given.Over) (c : In_ok-looked g) → Quiet (g.S.Shelf.model c.args.shelf.now)
    (g.S.Shelf.model c.take_change.new.shelf)
    c.args.run.now c.look_at.new.run
looked g c = reads_then (quiet g (goal.at.In_ok-looked g c).In_ok-at) (reads_reported _ c.in_ok-looked.ensures.only
    c.in_ok-looked.ensures.looks.faults tt)

pub returns-in_err-at-clause-stops : goal.returns-in_err-at-clause-stops
returns-in_err-at-clause-stops g c =
    grind (arith, same_error, reported_stays, seeks_ends, still_seen, tells_same, tells_some)

-- The faults of the last line that are reported in part.
part : (g : given.Over) (c : In_err-looked g) (source : SourceLine) → source.line
    ≡ record { bytes = c.take_change.new.line.items; place = c.in-Some.at.place } → (lines : List SourceLine)
    → LooksInPart source (sought (source ∷ lines) c.lines.begin).events c.take_change.new.run.faults.items
    c.look_at.new.run.faults.items
part g c source is lines = grind arith

pub returns-in_err-looked-clause-reads : goal.returns-in_err-looked-clause-reads
returns-in_err-looked-clause-reads g c =
    let at = goal.at.returns-in_err-looked-clause-reads g c in
    let source : SourceLine = record {
      line = record { bytes = c.take_change.new.line.items; place = c.in-Some.at.place };
      length = 0;
      size = 0;
    } in
    rw (same_error _ _ c.from_residual-in_err-looked.ensures.1) (reads_then (quiet g at.In_ok-at) (reads_reported _
    c.in_err-looked.ensures.only (part g at.In_err-looked source refl []).reported c.in_err-looked.ensures.memory))

pub returns-in_err-looked-clause-stops : goal.returns-in_err-looked-clause-stops
returns-in_err-looked-clause-stops g c = rw (same_error _ _ c.from_residual-in_err-looked.ensures.1) (λ seen it.
    let at = goal.at.returns-in_err-looked-clause-stops g c in
    let taken = rw c.in-Some.is at (c.in_ok-at.ensures.taken seen (still_seen c.lines.invariant.quiet it)) in
    record {
      why = rw c.in_err-looked.ensures.memory tt;
      reported = seeks_in_part _ (change_lines seen.left c.lines.run) c.lines.begin _
          (so_far_of c.lines.run) (c.lines.invariant.seeks seen it) (so_far_of c.take_change.new.run)
          (so_far_of c.look_at.new.run) c.take_change.new.line.items c.in-Some.at.place taken.0 _ taken.1
          (took_faults c.in_ok-at.ensures.takes.only) (took_names c.in_ok-at.ensures.takes.only)
          (ap opened_file_names c.in_err-looked.ensures.only.names)
          (part g at.In_err-looked taken.0.line taken.0.is
          (lines_at seen.left c.take_change.new.run.change));
    })

pub lines-preserved : goal.lines-preserved
lines-preserved g c = record {
  quiet = looked g (goal.at.lines-preserved g c).In_ok-looked;
  frame = search rules;
  begun = rw (sym c.in_ok-looked.ensures.only.names, c.in-On.is) at c.in_ok-looked.ensures.known;
  seeks = λ seen it.
      let taken = rw c.in-Some.is at (c.in_ok-at.ensures.taken seen (still_seen c.lines.invariant.quiet it)) in
      subst (λ ch. SeeksTo (sought (change_lines seen.left c.args.run.now) None)
      (sought (lines_at seen.left ch) c.in-On.next)
      (so_far_of c.args.run.now) (so_far_of c.look_at.new.run)) (sym c.in_ok-looked.ensures.only.change)
      (seeks_on (sought (change_lines seen.left c.args.run.now) None)
      (change_lines seen.left c.lines.run) c.lines.begin (so_far_of c.args.run.now)
      (so_far_of c.lines.run) (c.lines.invariant.seeks seen it) (so_far_of c.take_change.new.run)
      (so_far_of c.look_at.new.run)
      c.take_change.new.line.items c.in-Some.at.place taken.0 _ taken.1 (ap (λ (v : Vec SourceFault Global).
      v.items) c.in_ok-at.ensures.takes.only.faults) (took_names c.in_ok-at.ensures.takes.only)
      (ap opened_file_names c.in_ok-looked.ensures.only.names)
      (ap counters_of c.in_ok-looked.ensures.only.limits) c.in-On.next
      (rw (c.deref.ensures.value, c.in-On.is) at c.in_ok-looked.ensures.looks));
}

pub returns-in-Entry-clause-searched : goal.returns-in-Entry-clause-searched
returns-in-Entry-clause-searched g c = λ seen it.
    let taken = rw c.in-Some.is at (c.in_ok-at.ensures.taken seen (still_seen c.lines.invariant.quiet it)) in
    let found = seeks_found (sought (change_lines seen.left c.args.run.now) None)
    (change_lines seen.left c.lines.run) c.lines.begin
    (so_far_of c.args.run.now) (so_far_of c.lines.run) (c.lines.invariant.seeks seen it)
    (so_far_of c.take_change.new.run)
    (so_far_of c.look_at.new.run) c.take_change.new.line.items c.in-Some.at.place taken.0 _ taken.1
    (took_faults c.in_ok-at.ensures.takes.only) (took_names c.in_ok-at.ensures.takes.only)
    (ap opened_file_names c.in_ok-looked.ensures.only.names)
    (ap counters_of c.in_ok-looked.ensures.only.limits) c.in-Entry.place
    (rw (c.deref.ensures.value, c.in-Entry.is) at c.in_ok-looked.ensures.looks) in
    subst (λ ch. Searched (sought (change_lines seen.left c.args.run.now) None)
    (so_far_of c.args.run.now) (so_far_of c.look_at.new.run) (Waiting c.in-Entry.place) c.swap.new.x.items
    (lines_at seen.left ch)) (sym c.in_ok-looked.ensures.only.change)
    (subst (λ (v : Vec ℕ Global). Searched (sought (change_lines seen.left c.args.run.now) None)
    (so_far_of c.args.run.now) (so_far_of c.look_at.new.run) (Waiting c.in-Entry.place) v.items (lines_at
    seen.left c.take_change.new.run.change)) (sym c.swap.ensures.x_after) found)

pub returns-in_default-clause-searched : goal.returns-in_default-clause-searched
returns-in_default-clause-searched g c = grind (arith, still_seen, seeks_ended)

pub returns-in_default-clause-reads : goal.returns-in_default-clause-reads
returns-in_default-clause-reads g c = reads_then (quiet g (goal.at.returns-in_default-clause-reads g c).In_ok-at)
    (reads_none refl (λ seen it known. knows_same _ c.take_change.new.run c.end.new.run (ap (λ s. s.texts)
    c.end.ensures.stack) c.end.ensures.change (ap opened_file_names c.end.ensures.names) known) (reported_if
    c.end.result _ _ (reported_faults (sought [] c.lines.begin).events) c.end.ensures.reported c.end.ensures.err (ap
    opened_file_names c.end.ensures.names)) (outcome_memory c.end.result c.end.ensures.memory))

pub returns-in-Entry-clause-reads : goal.returns-in-Entry-clause-reads
returns-in-Entry-clause-reads g c = reads_set _ refl refl refl
    (looked g (goal.at.returns-in-Entry-clause-reads g c).In_ok-looked)
