use Rattle.cweb_lines.proofs.Common.{◌≡◌, ◌≤◌, ◌-◌, false, so_far_of, Replaces, old_side_of, Observed}
use Rattle.cweb_lines.proofs.NoReadFails.{Quiet}
use Rattle.cweb_lines.proofs.change.old_side.replace.Given as goal

abbrev pub invariant-lines : goal.invariant-lines
invariant-lines g l = record {
  quiet : Quiet (g.S.Shelf.model l.fn.shelf) (g.S.Shelf.model l.shelf) l.fn.run l.run;
  frame : record {
    stage : l.run.stage ≡ l.fn.run.stage;
    inputs : l.run.inputs ≡ l.fn.run.inputs;
    names : l.run.names ≡ l.fn.run.names;
    stopped : l.run.stopped ≡ l.fn.run.stopped;
    shallow : l.run.stack.depth ≤ l.fn.run.stack.depth;
    more : l.fn.run.limits.lines ≤ l.run.limits.lines;
    longer : l.fn.run.limits.bytes ≤ l.run.limits.bytes;
    few : l.so_far.unequal ≤ l.run.limits.lines;
  };
  goes_on : l.so_far.ended ≡ false;
  replaces : Observed (g.S.Shelf.model l.fn.shelf) (λ seen. Replaces (old_side_of seen.left l.fn.run)
      (old_side_of seen.left l.run) l.so_far (so_far_of l.fn.run) (so_far_of l.run));
}

abbrev pub decreases-lines : goal.decreases-lines
decreases-lines g l = 16777216 - l.run.limits.lines
