use Rattle.cweb_lines.proofs.Common.{rules, ◌≡◌, Some, [], Ok, Err, Line, refl, sym, ◌∙◌, Writes, BuffersLines, HasWritten, events_to_come, so_far_of, to_come, so_far, arith, same_error, ShelfContents}
use Rattle.cweb_lines.proofs.ReportsOnlyGrow.{grows_reported, reported_same}
use Rattle.cweb_lines.proofs.BufferedWrites.{failed_next, failed_same, held, held_on, fails_prefix, fails_among, printed_all, printed_before, printed_none, printed_then, written_on, blames_own, blames_write, memory_failed, memory_write, none_before}
use Rattle.cweb_lines.proofs.NoReadFails.{Quiet, quiet_same, reads_halted, reads_passed, reads_then, stays_known, still_seen}
use Rattle.cweb_lines.proofs.WrittenLinesAddUp.{nothing_yet, written_by, written_prefix, written_some, written_whole, tells_some, tells_more, tells_same}
use Rattle.cweb_lines.proofs.writing.write_merged_in_chunks.Given as given
use Rattle.cweb_lines.proofs.writing.write_merged_in_chunks.Goals as goal
use Rattle.cweb_lines.proofs.writing.write_merged_in_chunks.Goals.{After-pass_lines-passed, In_ok-next_line, In_default-write_all}

pub lines-init : goal.lines-init
lines-init g c = record {
  quiet = quiet_same _ _;
  printed = printed_none _;
  running = sym c.stopped.ensures.stop ∙ c.in_default.is;
  before = sym c.stopped.ensures.stop ∙ c.in_default.is;
  written = λ seen it. nothing_yet _ _ _;
}

quiet : (g : given.Over) (c : In_ok-next_line g) → Quiet (g.S.Shelf.model c.args.shelf.now)
    (g.S.Shelf.model c.next_line.new.shelf) c.args.merger.now.run
    c.next_line.new.self.run
quiet g c = reads_then c.lines.invariant.quiet (record {
  shelf = (c.in_ok-next_line.ensures.blames c.lines.invariant.running).reads;
  readers = λ seen it known.
      let stays = c.in_ok-next_line.ensures.known seen it known in (
        stays.readers,
        stays.blamed
            c.lines.invariant.running,
      );
  still = c.in_ok-next_line.ensures.grows.reported;
})

more : (g : given.Over) (c : After-pass_lines-passed g) (seen : ShelfContents g.row.S-R.Denot)
    → (g.S.Shelf.model c.args.shelf.now).contents ≡ Some seen
    → BuffersLines c.args.room (so_far c.args.merger.now) (so_far_of c.pass_lines-passed.new.self.run)
    (to_come seen c.args.merger.now) (events_to_come seen.texts seen.left c.pass_lines-passed.new.self.run)
    (Writes (g.W.Sink.model c.args.out.now) (g.W.Sink.model c.lines.out)) c.pass_lines-passed.new.buffer.items
more g c seen it =
    let next = rw c.in-Some-2.is at (c.in_ok-next_line.ensures.next seen (still_seen c.lines.invariant.quiet it)) in
    let line : Line = record { bytes = c.next_line.new.line.items; place = c.in-Some-2.field-0 } in
    let passes = c.pass_lines-passed.ensures.passes in
    held_on _ _ _ _ _ _ _ (held _ _ _ _ _ _ (c.lines.invariant.written seen it) line _ _ next _
    c.in_default-push.ensures.items) passes.lines _ _
    (passes.yields seen.texts seen.left)
    _ passes.buffered passes.within

pub returns-in-Some : goal.returns-in-Some
returns-in-Some g c = record {
  printed = printed_all (printed_none _);
  grows = grows_reported c.args.merger.now.run (reported_same _ _ refl refl);
  ok = search rules;
  ended = search rules;
  prefix = search rules;
  stops = search rules;
  fault = search rules;
  reads = search rules;
  blames = search rules;
  known = search rules;
  again = search rules;
}

pub returns-in_err-next_line : goal.returns-in_err-next_line
returns-in_err-next_line g c =
    let next = c.in_err-next_line.ensures in
    let blames = next.blames c.lines.invariant.running in
    let reads = reads_then c.lines.invariant.quiet (record {
      shelf = blames.reads;
      readers = λ seen it known.
          let stays = next.known seen it known in (stays.readers, stays.blamed c.lines.invariant.running);
      still = next.grows.reported;
    }) in
    rw (same_error _ _ c.from_residual.ensures.1) (record {
      printed = printed_all c.lines.invariant.printed;
      grows = record { reported = reads.still; lines = next.grows.lines; bytes = next.grows.bytes };
      ok = λ _ _. tt;
      ended = tt;
      prefix = λ seen it. written_prefix _ _ _ _ _ _ (c.lines.invariant.written seen it);
      stops = λ seen it before.
          let written = c.lines.invariant.written seen it in
          let there = next.stops seen (still_seen c.lines.invariant.quiet it) c.lines.invariant.running in
          record {
            why = written_by _ _ _ _ _ _ written c.in_err-next_line.field-0.0 _ there.why;
            reported = tells_more _ _ _ _ _ _ written.yields there.reported;
          };
      fault = search rules;
      reads = λ before. reads.shelf;
      blames = grind (arith, blames_own, failed_same, c.lines.invariant.printed);
      known = stays_known (Err c.in_err-next_line.field-0.0) reads;
      again = none_before _ c.lines.invariant.before;
    })

pub returns-in_default-2 : goal.returns-in_default-2
returns-in_default-2 g c =
    let q = quiet g (goal.at.returns-in_default-2 g c).In_ok-next_line in
    record {
      printed = printed_all c.lines.invariant.printed;
      grows = grows_reported c.next_line.new.self.run q.still;
      ok = λ seen it.
          let last = rw c.in_default-2.is at
          (c.in_ok-next_line.ensures.next seen (still_seen c.lines.invariant.quiet it)) in
          written_whole _ _ _ _ _ _ (c.lines.invariant.written seen it) _ _ last.0 last.1;
      ended = grind arith;
      prefix = grind arith;
      stops = grind arith;
      fault = grind arith;
      reads = λ before. q.shelf;
      blames = grind arith;
      known = stays_known (Ok tt) q;
      again = none_before _ c.lines.invariant.before;
    }

pub returns-in-Err : goal.returns-in-Err
returns-in-Err g c =
    let is_memory = c.halt.ensures.stop c.in_ok-next_line.ensures.leaves.running in
    let reads = reads_then (quiet g (goal.at.returns-in-Err g c).In_ok-next_line)
    (reads_halted c.halt.ensures.readers c.halt.ensures.so_far is_memory) in
    record {
      printed = printed_all c.lines.invariant.printed;
      grows = grows_reported c.halt.new.self.run reads.still;
      ok = λ _ _. tt;
      ended = tt;
      prefix = λ seen it. written_prefix _ _ _ _ _ _ (c.lines.invariant.written seen it);
      stops = λ seen it before.
          let written = c.lines.invariant.written seen it in
          let next = rw c.in-Some-2.is at
          (c.in_ok-next_line.ensures.next seen (still_seen c.lines.invariant.quiet it)) in
          record {
            why = memory_failed _ _ _ _ _ is_memory (written_some _ _ _ _ _ _ written);
            reported = tells_same _ _ _ _ c.halt.ensures.so_far (tells_more _ _ _ _ _ _ written.yields
                (tells_some _ _ _ _ _ next));
          };
      fault = λ seen it before is. absurd (memory_write _ _ refl is_memory is);
      reads = λ before. reads.shelf;
      blames = λ before. blames_own c.halt.result _ _ _ _ (rw is_memory tt) c.halt.ensures.kept c.halt.ensures.named
          (failed_same c.lines.invariant.printed);
      known = stays_known (Err c.halt.result) reads;
      again = none_before _ c.lines.invariant.before;
    }

pub returns-in-Err-write_all : goal.returns-in-Err-write_all
returns-in-Err-write_all g c =
    let at = goal.at.returns-in-Err-write_all g c in
    let passes = c.pass_lines-passed.ensures.passes in
    let q = reads_then (quiet g at.In_ok-next_line) (reads_passed passes) in
    let err = rw c.deref.ensures.value at c.in-Err-write_all.ensures.wrote in
    record {
      printed = printed_before c.lines.invariant.printed err;
      grows = grows_reported c.pass_lines-passed.new.self.run q.still;
      ok = λ _ _. tt;
      ended = tt;
      prefix = λ seen it. fails_prefix _ _ _ _ _ _ _ _
          (more g at.After-pass_lines-passed seen it) (g.W.Sink.model c.write_all.new.out) err;
      stops = λ seen it before. record {
        why = tt;
        reported = tells_some _ _ _ _ _ (more g at.After-pass_lines-passed seen it).yields;
      };
      fault = λ seen it before is. fails_among _ _ _ _ _ _ _ _
          (more g at.After-pass_lines-passed seen it) (g.W.Sink.model c.write_all.new.out) err;
      reads = λ before. (λ file. [], q.shelf.1);
      blames = λ before. blames_write _ _ _ _ (passes.stopped ∙ c.in_ok-next_line.ensures.leaves.running)
          (failed_next c.lines.invariant.printed err);
      known = grind arith;
      again = none_before _ c.lines.invariant.before;
    }

wrote : (g : given.Over) (c : In_default-write_all g) (seen : ShelfContents g.row.S-R.Denot)
    → (g.S.Shelf.model c.args.shelf.now).contents ≡ Some seen
    → HasWritten (so_far c.args.merger.now) (so_far_of c.pass_lines-passed.new.self.run)
    (to_come seen c.args.merger.now) (events_to_come seen.texts seen.left c.pass_lines-passed.new.self.run)
    (Writes (g.W.Sink.model c.args.out.now) (g.W.Sink.model c.write_all.new.out))
wrote g c seen it = written_on _ _ _ _ _ _ _ _
    (more g (goal.at.In_default-write_all g c).After-pass_lines-passed seen it) (g.W.Sink.model c.write_all.new.out)
    (rw c.deref.ensures.value at c.in_default-write_all.ensures.wrote)

pub returns-in-Err-passed : goal.returns-in-Err-passed
returns-in-Err-passed g c =
    let at = goal.at.returns-in-Err-passed g c in
    let passes = c.pass_lines-passed.ensures.passes in
    let halted = c.halt-in-Err-passed.ensures in
    let is_memory = halted.stop (passes.stopped ∙ c.in_ok-next_line.ensures.leaves.running) in
    let reads = reads_then (reads_then (quiet g at.In_ok-next_line) (reads_passed passes))
    (reads_halted halted.readers halted.so_far is_memory) in
    record {
      printed = printed_all (printed_then _ c.lines.invariant.printed c.in_default-write_all.ensures.wrote);
      grows = grows_reported c.halt-in-Err-passed.new.self.run reads.still;
      ok = λ _ _. tt;
      ended = tt;
      prefix = λ seen it. written_prefix _ _ _ _ _ _ (wrote g at.In_default-write_all seen it);
      stops = λ seen it before.
          let written = wrote g at.In_default-write_all seen it in
          record {
            why = memory_failed _ _ _ _ _ is_memory (written_some _ _ _ _ _ _ written);
            reported = tells_same _ _ _ _ halted.so_far (tells_some _ _ _ _ _ written.yields);
          };
      fault = λ seen it before is. absurd (memory_write _ _ refl is_memory is);
      reads = λ before. reads.shelf;
      blames = λ before. blames_own c.halt-in-Err-passed.result _ _ _ _ (rw is_memory tt) halted.kept halted.named
          (failed_same (printed_then _ c.lines.invariant.printed c.in_default-write_all.ensures.wrote));
      known = stays_known (Err c.halt-in-Err-passed.result) reads;
      again = none_before _ c.lines.invariant.before;
    }

pub lines-preserved : goal.lines-preserved
lines-preserved g c =
    let at = goal.at.lines-preserved g c in
    let passes = c.pass_lines-passed.ensures.passes in
    record {
      quiet = reads_then (quiet g at.In_ok-next_line) (reads_passed passes);
      printed = printed_then _ c.lines.invariant.printed c.in_default-write_all.ensures.wrote;
      running = passes.stopped ∙ c.in_ok-next_line.ensures.leaves.running;
      before = c.lines.invariant.before;
      written = λ seen it. wrote g at.In_default-write_all seen it;
    }
