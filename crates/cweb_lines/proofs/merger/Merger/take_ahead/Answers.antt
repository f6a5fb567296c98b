use Rattle.cweb_lines.proofs.Common.{arith, length-map, pending_of, sources_next, top_of}
use Rattle.cweb_lines.proofs.LinesInBuffer.{run_at}
use Rattle.cweb_lines.proofs.Lookahead.{borrows_lines}
use Rattle.cweb_lines.proofs.Passes.{next-length}
use Rattle.cweb_lines.proofs.merger.Merger.take_ahead.Goals as goal

pub returns : goal.returns
returns g c = λ lines next.
    let run = c.args.self.now.run in
    let emitted = c.advance.ensures.emitted lines next in
    record {
      emitted = emitted;
      bytes = c.advance.ensures.bytes lines next;
      count = omega (
        arith,
        emitted.counted,
        next-length (pending_of run) (top_of run.stack) c.args.ahead.stretch lines
            (run_at (pending_of run) (top_of run.stack) c.args.ahead.stretch lines next.in_place),
        length-map (sources_next (top_of run.stack) lines) (λ source. source.line),
      );
      borrows = borrows_lines run c.advance.new.self _ emitted;
    }
