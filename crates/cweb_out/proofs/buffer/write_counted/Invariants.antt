use Rattle.cweb_out.proofs.Common.{◌≡◌, ◌≤◌, ◌-◌, length, take, written}
use Rattle.cweb_out.proofs.buffer.write_counted.Given as goal

abbrev pub invariant-pieces : goal.invariant-pieces
invariant-pieces g l = record {
  within : l.taken ≤ length l.bytes;
  wrote : g.W.Sink.model l.out ≡ written (take l.taken l.bytes) (g.W.Sink.model l.fn.out);
}

abbrev pub decreases-pieces : goal.decreases-pieces
decreases-pieces g l = length l.bytes - l.taken
