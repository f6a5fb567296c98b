use Rattle.cweb_lines.proofs.Common.{Some, ap, sym, ◌∙◌, change_code, counters_of, so_far_of, arith, same_error}
use Rattle.cweb_lines.proofs.ReportsOnlyGrow.{took_faults, took_names}
use Rattle.cweb_lines.proofs.Found.{IfOk-map}
use Rattle.cweb_lines.proofs.EmittedLinesAddUp.{yields_took}
use Rattle.cweb_lines.proofs.NewSideLines.{coming_is, new_ended, new_faulty, new_first, new_side_ended, new_stops}
use Rattle.cweb_lines.proofs.NoReadFails.{still_seen}
use Rattle.cweb_lines.proofs.Codes.{is_end}
use Rattle.cweb_lines.proofs.Stops.{reported_stays, stops_unreported, unreported}
use Rattle.cweb_lines.proofs.step.turning.take_new.Goals as goal

pub returns-in_err-at : goal.returns-in_err-at
returns-in_err-at g c =
    grind (arith, same_error, coming_is, new_stops, reported_stays, unreported, took_faults, took_names)

pub returns-in_default : goal.returns-in_default
returns-in_default g c =
    let took = c.in_ok-at.ensures.takes in
    let report = c.in_ok-report.ensures in
    record {
      reads = grind arith;
      turns = grind arith;
      yields = λ seen it.
          let taken = rw c.in_default.is at (c.in_ok-at.ensures.taken seen it) in
          let counted = rw c.in_default.is at took.answers.counted in
          new_ended seen.texts seen.left c.requires.changing c.requires.below took.only c.in_ok-at.ensures.stack
          c.report.new.self report.only taken.0
          (ap counters_of report.only.limits ∙ (λ i. record { lines = counted.0 i; bytes = counted.1 i }))
          report.reported;
      stops = λ seen it. tt;
    }

pub returns-in-None : goal.returns-in-None
returns-in-None g c =
    let took = c.in_ok-at.ensures.takes in
    let obeys = c.emit_or_obey.ensures.obeys in
    record {
      reads = grind arith;
      turns = grind arith;
      yields = λ seen it.
          let taken = rw c.in-Some.is at (c.in_ok-at.ensures.taken seen it) in
          let test = ap change_code (sym c.deref.ensures.value) ∙ sym c.change_code.ensures ∙ c.in-None.is in
          IfOk-map c.emit_or_obey.result (λ turn yields. yields_took _ (so_far_of c.args.run.now) _ _
          c.take_change.new.line.items c.in-Some.at.place taken.0 _ _ _ (took_faults took.only) (took_names took.only)
          (new_first seen.texts seen.left c.requires.changing c.requires.below took.only c.in_ok-at.ensures.stack
          c.take_change.new.line.items c.in-Some.at.place taken.0 taken.1 test)
          (yields taken.0.line taken.0.is))
          (rw c.deref-in-None.ensures.value at (obeys.yields seen (still_seen took.reads it)));
      stops = λ seen it. stops_unreported c.emit_or_obey.result _ (so_far_of c.take_change.new.run) _ _
          (took_faults took.only) (took_names took.only) obeys.only.memory obeys.only.same;
    }

pub returns-then-eq : goal.returns-then-eq
returns-then-eq g c =
    let took = c.in_ok-at.ensures.takes in
    record {
      reads = grind arith;
      turns = grind arith;
      yields = λ seen it.
          let taken = rw c.in-Some.is at (c.in_ok-at.ensures.taken seen it) in
          let test = ap change_code (sym c.deref.ensures.value) ∙ sym c.change_code.ensures ∙ c.in-Some-change_code.is
          ∙ ap Some (is_end c.in-Some-change_code.code (sym c.eq.ensures ∙ c.if-eq.true)) in
          new_side_ended seen.texts seen.left c.requires.changing c.requires.below took.only c.in_ok-at.ensures.stack
          c.take_change.new.line.items
          c.in-Some.at.place taken.0 _ taken.1 test;
      stops = λ seen it. tt;
    }

pub returns-in_ok-report-in-Some-change_code : goal.returns-in_ok-report-in-Some-change_code
returns-in_ok-report-in-Some-change_code g c =
    let took = c.in_ok-at.ensures.takes in
    let report = c.in_ok-report-in-Some-change_code.ensures in
    record {
      reads = grind arith;
      turns = grind arith;
      yields = λ seen it.
          let taken = rw c.in-Some.is at (c.in_ok-at.ensures.taken seen it) in
          let test = ap change_code (sym c.deref.ensures.value) ∙ sym c.change_code.ensures
          ∙ c.in-Some-change_code.is in
          new_faulty seen.texts seen.left c.requires.changing c.requires.below took.only c.in_ok-at.ensures.stack
          c.take_change.new.line.items c.in-Some.at.place taken.0
          c.report-in-Some-change_code.new.self report.only taken.1 c.in-Some-change_code.code test
          (sym c.eq.ensures ∙ c.if-eq.false) report.reported;
      stops = λ seen it. tt;
    }
