use Rattle.std.proofs.Common.{◌≡◌, ◌≤◌, ◌-◌, length, take}
use Rattle.cweb_files.specs.Sinks.{written}
use Rattle.cweb_files.proofs.writing.write_all.Given as goal

abbrev pub invariant-pieces : goal.invariant-pieces
invariant-pieces g l = record {
  within : l.at ≤ length l.bytes;
  wrote : g.W.Sink.model l.out ≡ written (take l.at l.bytes) (g.W.Sink.model l.fn.out);
}

abbrev pub decreases-pieces : goal.decreases-pieces
decreases-pieces g l = length l.bytes - l.at
