use Rattle.cweb_lines.proofs.Common.{◌≡◌, ◌≤◌, ◌-◌, length, None, sought, change_lines, so_far_of, opened_file_names, BegunKnown, SeeksTo, Observed}
use Rattle.cweb_lines.proofs.NoReadFails.{Quiet}
use Rattle.cweb_lines.proofs.change.seek.seek.Given as goal

abbrev pub invariant-lines : goal.invariant-lines
invariant-lines g l = record {
  quiet : Quiet (g.S.Shelf.model l.fn.shelf) (g.S.Shelf.model l.shelf) l.fn.run l.run;
  frame : record {
    stage : l.run.stage ≡ l.fn.run.stage;
    inputs : l.run.inputs ≡ l.fn.run.inputs;
    stack : l.run.stack ≡ l.fn.run.stack;
    names : l.run.names ≡ l.fn.run.names;
    stopped : l.run.stopped ≡ l.fn.run.stopped;
    more : l.fn.run.limits.lines ≤ l.run.limits.lines;
    longer : l.fn.run.limits.bytes ≤ l.run.limits.bytes;
  };
  begun : BegunKnown (length (opened_file_names l.run.names)) l.begin;
  seeks : Observed (g.S.Shelf.model l.fn.shelf) (λ seen. SeeksTo (sought
      (change_lines seen.left l.fn.run) None) (sought
      (change_lines seen.left l.run) l.begin) (so_far_of l.fn.run) (so_far_of l.run));
}

abbrev pub decreases-lines : goal.decreases-lines
decreases-lines g l = 16777216 - l.run.limits.lines
