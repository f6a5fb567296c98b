use Rattle.cweb_lines.proofs.Common.{refl, arith, length-map, pending_of, sources_next, top_of}
use Rattle.cweb_lines.proofs.LinesInBuffer.{run_at, some_lines}
use Rattle.cweb_lines.proofs.Passes.{next-length, yields_next}
use Rattle.cweb_lines.proofs.merge_state.MergeState.advance.Goals as goal

pub returns-clause-emitted : goal.returns-clause-emitted
returns-clause-emitted g c = λ lines next.
    let run = c.args.self.now in
    let here = run_at (pending_of run) (top_of run.stack) c.args.stretch lines next.in_place in
    let passes = c.advance_top.ensures.passes (pending_of run) lines here in
    let keeps = c.advance_top.ensures.keeps in
    record {
      yields = grind (arith, yields_next);
      stopped = refl;
      names = refl;
      counted = omega (
        arith,
        passes.few,
        next-length (pending_of run) (top_of run.stack) c.args.stretch lines here,
        length-map (sources_next (top_of run.stack) lines) (λ source. source.line),
      );
      readers = λ opened_as known. record { texts = keeps.named opened_as _ known.texts; change = known.change };
    }

pub returns-clause-bytes : goal.returns-clause-bytes
returns-clause-bytes g c = λ lines next.
    let run = c.args.self.now in
    let here = run_at (pending_of run) (top_of run.stack) c.args.stretch lines next.in_place in
    (c.advance_top.ensures.passes (pending_of run) lines here).bytes

pub returns-clause-more : goal.returns-clause-more
returns-clause-more g c =
    let run = c.args.self.now in
    let lines = c.requires.0 in
    let next = c.requires.1.in_place in
    let here = run_at (pending_of run) (top_of run.stack) c.args.stretch lines next in
    omega (
      arith,
      (c.advance_top.ensures.passes (pending_of run) lines here).few,
      some_lines (pending_of run) (top_of run.stack) c.args.stretch lines next,
    )
