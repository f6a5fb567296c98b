use Rattle.cweb_lines.proofs.Common.{Some, ◌≡◌, counters_of, pending_of, so_far_of, CountsLine, events_to_come, events_after_line, begun_by, arith, same_error, ShelfContents}
use Rattle.cweb_lines.proofs.ReportsOnlyGrow.{took_faults, took_names}
use Rattle.cweb_lines.proofs.Found.{IfOk-map}
use Rattle.cweb_lines.proofs.Stops.{stopped_by, stops_unreported, reported_stays, things_first, unreported}
use Rattle.cweb_lines.proofs.EmittedLinesAddUp.{yields_took}
use Rattle.cweb_lines.proofs.MergeStateEvents.{stops_in}
use Rattle.cweb_lines.proofs.SourceStacks.{stops_map}
use Rattle.cweb_lines.proofs.Turns.{began_yields, began_stops, began_tells, raw_taken}
use Rattle.cweb_lines.proofs.NoReadFails.{reads_obeyed, reads_then, still_seen}
use Rattle.cweb_lines.proofs.step.turning.take_settled.Given as given
use Rattle.cweb_lines.proofs.step.turning.take_settled.Goals as goal
use Rattle.cweb_lines.proofs.step.turning.take_settled.Goals.{In-Some, In-Some-begun_at}

pub returns-in_err-at : goal.returns-in_err-at
returns-in_err-at g c =
    grind (
      arith,
      same_error,
      stopped_by,
      reported_stays,
      things_first,
      stops_map,
      stops_in,
      unreported,
      took_faults,
      took_names,
    )

taken : (g : given.Over) (c : In-Some g) (seen : ShelfContents g.row.S-R.Denot)
    → (g.S.Shelf.model c.args.shelf.now).contents ≡ Some seen → (t : CountsLine
    c.take_raw.new.line.items c.in-Some.at.place (counters_of c.args.run.now.limits)
    (counters_of c.take_raw.new.run.limits))
    × (events_to_come seen.texts seen.left c.args.run.now
    ≡ events_after_line seen.texts seen.left c.take_raw.new.run c.in-Some.at t.line)
taken g c seen it =
    let took = c.in_ok-at.ensures.takes in
    raw_taken seen.texts seen.left c.args.run.now c.take_raw.new.run c.in-Some.at c.take_raw.new.line.items
    c.requires.settled (rw c.in-Some.is at (c.in_ok-at.ensures.taken seen it)) c.in_ok-at.ensures.closes.below took.only
    c.in_ok-at.ensures.change

begun : (g : given.Over) (c : In-Some-begun_at g) → begun_by (pending_of c.take_raw.new.run) c.in-Some.at.may_match
    c.take_raw.new.line.items ≡ Some c.in-Some-begun_at.begin
begun g c = grind arith

pub returns-in_default-begun_at : goal.returns-in_default-begun_at
returns-in_default-begun_at g c =
    let took = c.in_ok-at.ensures.takes in
    let obeys = c.emit_or_obey.ensures.obeys in
    record {
      reads = reads_then took.reads (reads_obeyed obeys);
      turns = grind arith;
      yields = λ seen it.
          let t = taken g (goal.at.returns-in_default-begun_at g c).In-Some seen it in
          IfOk-map c.emit_or_obey.result
          (λ turn yields. yields_took _ (so_far_of c.args.run.now) _ _ c.take_raw.new.line.items
          c.in-Some.at.place t.0 _ _ _ (took_faults took.only) (took_names took.only) t.1 (yields t.0.line t.0.is))
          (rw c.deref-in_default-begun_at.ensures.value at
          (obeys.yields seen (still_seen took.reads it)));
      stops = λ seen it. stops_unreported c.emit_or_obey.result _ (so_far_of c.take_raw.new.run) _ _
          (took_faults took.only) (took_names took.only) obeys.only.memory obeys.only.same;
    }

pub returns-in_err-begin_change : goal.returns-in_err-begin_change
returns-in_err-begin_change g c =
    let at = goal.at.returns-in_err-begin_change g c in
    let took = c.in_ok-at.ensures.takes in
    rw (same_error _ _ c.from_residual-in_err-begin_change.ensures.1) (record {
      reads = reads_then took.reads c.in_err-begin_change.ensures.reads;
      turns = grind arith;
      yields = λ seen it. tt;
      stops = λ seen it.
          let t = taken g at.In-Some seen it in
          record {
            why = began_stops seen.texts seen.left
                c.take_raw.new.run c.args.run.now c.in-Some.at c.take_raw.new.line.items c.in-Some-begun_at.begin _
                took.only t.0 t.1 (begun g at.In-Some-begun_at) c.in_err-begin_change.field-0.0 _
                (c.in_err-begin_change.ensures.stops seen (still_seen took.reads it));
            reported = began_tells seen.texts seen.left
                c.take_raw.new.run c.args.run.now c.in-Some.at c.take_raw.new.line.items c.in-Some-begun_at.begin _
                took.only t.0 t.1 (begun g at.In-Some-begun_at) _ (c.in_err-begin_change.ensures.reported seen
                (still_seen took.reads it));
          };
    })

pub returns : goal.returns
returns g c =
    let at = goal.at.returns g c in
    let took = c.in_ok-at.ensures.takes in
    let change = c.in_ok-begin_change.ensures in
    record {
      reads = reads_then took.reads change.reads;
      turns = grind arith;
      yields = λ seen it.
          let t = taken g at.In-Some seen it in
          began_yields seen.texts seen.left c.take_raw.new.run
          c.args.run.now c.in-Some.at c.take_raw.new.line.items c.in-Some-begun_at.begin _ took.only t.0 t.1
          (begun g at.In-Some-begun_at) c.begin_change.new.run change.goes.inputs change.goes.names
          (change.changed seen (still_seen took.reads it));
      stops = λ seen it. tt;
    }

pub returns-in_default : goal.returns-in_default
returns-in_default g c =
    let took = c.in_ok-at.ensures.takes in
    let last = c.take_end.ensures in
    record {
      reads = reads_then took.reads last.reads;
      turns = grind arith;
      yields = λ seen it.
          let taken = rw c.in_default.is at (c.in_ok-at.ensures.taken seen it) in
          let counted = rw c.in_default.is at took.answers.counted in
          let yields = last.yields seen (still_seen took.reads it) in
          grind arith;
      stops = λ seen it.
          let taken = rw c.in_default.is at (c.in_ok-at.ensures.taken seen it) in
          let counted = rw c.in_default.is at took.answers.counted in
          let stops = last.stops seen (still_seen took.reads it) in
          grind arith;
    }
