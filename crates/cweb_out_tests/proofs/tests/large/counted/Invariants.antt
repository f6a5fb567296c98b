use Rattle.std.proofs.Common.{vec_capacity}
use Rattle.cweb_out.specs.surface.FrameStacks.{IsFrameStack}
use Rattle.cweb_out_tests.proofs.tests.large.counted.Given as goal

abbrev pub invariant-calls : goal.invariant-calls
invariant-calls g l = record {
  valid : IsFrameStack l.expander.store.now l.expander.frames.items (vec_capacity l.expander.frames);
}
