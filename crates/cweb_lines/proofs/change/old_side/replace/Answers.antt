use Rattle.cweb_lines.proofs.Common.{rules, ◌≡◌, [], ℕ, List, Vec, Global, Some, refl, ap, sym, subst, ◌∙◌, change_code, counters_of, Thing, change_lines, so_far_of, opened_file_names, lines_at, things_above, StopsFor, TopStops, arith, same_error}
use Rattle.cweb_lines.specs.declared.change.code.Code.TheVariants.{NewSide as new_side}
use Rattle.cweb_lines.proofs.ReportsOnlyGrow.{took_faults, took_names}
use Rattle.cweb_lines.proofs.NoReadFails.{Quiet, quiet_same, reads_reported, reads_set, reads_then, still_seen}
use Rattle.cweb_lines.proofs.Replaces.{compares_same, is_replaced_same, replaces_same, replaces_ends, replaces_new, replaces_code, replaces_line, raw_ends}
use Rattle.cweb_lines.proofs.Codes.{is_new, is_faulty}
use Rattle.cweb_lines.proofs.Stops.{reported_stays, reported_uncounted}
use Rattle.cweb_lines.proofs.change.old_side.replace.Given as given
use Rattle.cweb_lines.proofs.change.old_side.replace.Goals as goal
use Rattle.cweb_lines.proofs.change.old_side.replace.Goals.{In_ok-at}

quiet : (g : given.Over) (c : In_ok-at g) → Quiet (g.S.Shelf.model c.args.shelf.now)
    (g.S.Shelf.model c.take_change.new.shelf) c.args.run.now
    c.take_change.new.run
quiet g c = reads_then c.lines.invariant.quiet c.in_ok-at.ensures.takes.reads

pub lines-init : goal.lines-init
lines-init g c = record {
  quiet = quiet_same _ _;
  frame = search rules;
  goes_on = search rules;
  replaces = search rules;
}

raws : (g : given.Over) (c : In_ok-at g) (left : g.row.S-R.Denot → List ℕ)
    → things_above left 0 c.take_change.new.run.stack [] ≡ things_above left 0 c.lines.run.stack []
raws g c left = λ i. things_above left 0 (c.in_ok-at.ensures.stack i) []

pub returns-in_err-at-clause-stops : goal.returns-in_err-at-clause-stops
returns-in_err-at-clause-stops g c = grind (arith, same_error, replaces_ends, reported_stays, still_seen)

pub returns-in_err-so_far-in-None-clause-stops : goal.returns-in_err-so_far-in-None-clause-stops
returns-in_err-so_far-in-None-clause-stops g c = rw (same_error _ _ c.from_residual-in_err-so_far-in-None.ensures.1) (λ
    seen it.
    let taken = rw c.in-Some.is at (c.in_ok-at.ensures.taken seen (still_seen c.lines.invariant.quiet it)) in
    let test = ap change_code (sym c.deref.ensures.value) ∙ sym c.change_code.ensures ∙ c.in-None.is in
    let same = reported_uncounted _ c.compare.new.run c.in_err-so_far-in-None.ensures.only
    c.in_err-so_far-in-None.ensures.away.same
    in
    raw_ends _ c.lines.so_far _ _ _ _ (c.lines.invariant.replaces seen it) (so_far_of c.take_change.new.run)
    c.take_change.new.line.items c.in-Some.at.place taken.0 _ taken.1 (took_faults c.in_ok-at.ensures.takes.only)
    (took_names c.in_ok-at.ensures.takes.only) c.in_err-so_far-in-None.field-0.0 (so_far_of c.compare.new.run) same test
    (subst (λ (ts : List Thing). StopsFor (TopStops c.in_err-so_far-in-None.field-0.0 (counters_of
    c.take_change.new.run.limits) ts) c.in_err-so_far-in-None.field-0.0) (raws g
    (goal.at.returns-in_err-so_far-in-None-clause-stops g c).In_ok-at seen.left) (c.in_err-so_far-in-None.ensures.stops
    seen (still_seen (quiet g (goal.at.returns-in_err-so_far-in-None-clause-stops g c).In_ok-at) it))))

pub returns-then-eq-clause-replaced : goal.returns-then-eq-clause-replaced
returns-then-eq-clause-replaced g c = λ seen it.
    let taken = rw c.in-Some.is at (c.in_ok-at.ensures.taken seen (still_seen c.lines.invariant.quiet it)) in
    let test : change_code c.take_change.new.line.items ≡ Some new_side = ap change_code (sym c.deref.ensures.value)
    ∙ sym c.change_code.ensures ∙ c.in-Some-change_code.is
    ∙ ap Some (is_new c.in-Some-change_code.code (sym c.eq.ensures ∙ c.if-eq.true)) in
    is_replaced_same _ _ _ _ _ _ _ _ (sym c.lines.invariant.goes_on)
    (sym (raws g (goal.at.returns-then-eq-clause-replaced g c).In_ok-at seen.left)) (replaces_new _ c.lines.so_far _ _
    _ _ (c.lines.invariant.replaces seen it) (so_far_of c.take_change.new.run) c.take_change.new.line.items
    c.in-Some.at.place taken.0 _ taken.1 (took_faults c.in_ok-at.ensures.takes.only) (took_names
    c.in_ok-at.ensures.takes.only) test)

pub lines-preserved : goal.lines-preserved
lines-preserved g c = record {
  quiet = reads_then (quiet g (goal.at.lines-preserved g c).In_ok-at) (reads_reported _
      c.in_ok-report-in-Some-change_code.ensures.only c.in_ok-report-in-Some-change_code.ensures.reported tt);
  frame = grind arith;
  goes_on = c.lines.invariant.goes_on;
  replaces = λ seen it.
      let taken = rw c.in-Some.is at (c.in_ok-at.ensures.taken seen (still_seen c.lines.invariant.quiet it)) in
      let change : change_lines seen.left c.take_change.new.run
      ≡ change_lines seen.left c.report.new.self =
      ap (λ ch. lines_at seen.left ch) (sym c.in_ok-report-in-Some-change_code.ensures.only.change) in
      let same : things_above seen.left 0 c.lines.run.stack []
      ≡ things_above seen.left 0 c.report.new.self.stack [] =
      sym (raws g (goal.at.lines-preserved g c).In_ok-at seen.left)
      ∙ ap (λ s. things_above seen.left 0 s [])
      (sym c.in_ok-report-in-Some-change_code.ensures.only.stack) in
      let test = ap change_code (sym c.deref.ensures.value) ∙ sym c.change_code.ensures ∙ c.in-Some-change_code.is in
      replaces_same _ _ _ _ _ _ _ _ change same (replaces_code _ c.lines.so_far _ _ _ _
      (c.lines.invariant.replaces seen it) (so_far_of c.take_change.new.run) c.take_change.new.line.items
      c.in-Some.at.place taken.0 _ taken.1 (took_faults c.in_ok-at.ensures.takes.only) (took_names
      c.in_ok-at.ensures.takes.only) c.in-Some-change_code.code (so_far_of c.report.new.self) test (is_faulty
      c.in-Some-change_code.code _ _ _ _ (sym c.eq.ensures ∙ c.if-eq.false))
      c.in_ok-report-in-Some-change_code.ensures.reported (ap opened_file_names
      c.in_ok-report-in-Some-change_code.ensures.only.names) (ap counters_of
      c.in_ok-report-in-Some-change_code.ensures.only.limits));
}

pub lines-preserved-in-None : goal.lines-preserved-in-None
lines-preserved-in-None g c = record {
  quiet = search (rules, reads_then, reads_set);
  frame = grind arith;
  goes_on = c.in_ok-so_far-in-None.ensures.away.ended ∙ c.lines.invariant.goes_on;
  replaces = λ seen it.
      let taken = rw c.in-Some.is at (c.in_ok-at.ensures.taken seen (still_seen c.lines.invariant.quiet it)) in
      let test = ap change_code (sym c.deref.ensures.value) ∙ sym c.change_code.ensures ∙ c.in-None.is in
      let change : change_lines seen.left c.take_change.new.run
      ≡ change_lines seen.left c.compare.new.run =
      ap (λ ch. lines_at seen.left ch) (sym c.in_ok-so_far-in-None.ensures.change) in
      let compares = compares_same _ _ _ _ _ _ _ _ _ (ap (λ (v : Vec ℕ Global). v.items) c.swap.ensures.x_after)
      (raws g (goal.at.lines-preserved-in-None g c).In_ok-at seen.left) (c.in_ok-so_far-in-None.ensures.compares seen
      (still_seen (quiet g (goal.at.lines-preserved-in-None g c).In_ok-at) it)) in
      replaces_same _ _ _ _ _ _ _ _ change refl (replaces_line _ c.lines.so_far _ _ _ _
      (c.lines.invariant.replaces seen it) (so_far_of c.take_change.new.run) c.take_change.new.line.items
      c.in-Some.at.place taken.0 _ taken.1 (took_faults c.in_ok-at.ensures.takes.only) (took_names
      c.in_ok-at.ensures.takes.only) c.in_ok-so_far-in-None.so_far _ (so_far_of c.compare.new.run) test compares);
}

pub returns-in_default-clause-replaced : goal.returns-in_default-clause-replaced
returns-in_default-clause-replaced g c = λ seen it.
    let replaces = c.lines.invariant.replaces seen it in
    let taken = rw c.in_default.is at (c.in_ok-at.ensures.taken seen (still_seen c.lines.invariant.quiet it)) in
    let counted = rw c.in_default.is at c.in_ok-at.ensures.takes.answers.counted in
    let raws_are = raws g (goal.at.returns-in_default-clause-replaced g c).In_ok-at seen.left in
    grind arith
