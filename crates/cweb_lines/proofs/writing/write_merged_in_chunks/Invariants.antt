use Rattle.cweb_lines.proofs.Common.{◌≡◌, ◌-◌, None, Writes, to_come, so_far, stop_in, HasWritten, Observed}
use Rattle.cweb_lines.proofs.BufferedWrites.{Printed}
use Rattle.cweb_lines.proofs.NoReadFails.{Quiet}
use Rattle.cweb_lines.proofs.writing.write_merged_in_chunks.Given as goal

abbrev pub invariant-lines : goal.invariant-lines
invariant-lines g l = record {
  quiet : Quiet (g.S.Shelf.model l.fn.shelf) (g.S.Shelf.model l.shelf) l.fn.merger.run l.merger.run;
  printed : Printed (g.W.Sink.model l.fn.out) (g.W.Sink.model l.out);
  running : stop_in l.merger ≡ None;
  before : stop_in l.fn.merger ≡ None;
  written : Observed (g.S.Shelf.model l.fn.shelf) (λ seen. HasWritten (so_far l.fn.merger) (so_far l.merger)
      (to_come seen l.fn.merger) (to_come seen l.merger)
      (Writes (g.W.Sink.model l.fn.out) (g.W.Sink.model l.out)));
}

abbrev pub decreases-lines : goal.decreases-lines
decreases-lines g l = 16777216 - (so_far l.merger).count.lines
