use Rattle.std.proofs.Common.{vec_capacity}
use Rattle.cweb_out.specs.surface.FrameStacks.{IsFrameStack}
use Rattle.cweb_tools_tests.proofs.tests.surface.outputs.count_words.Given as goal

abbrev pub invariant-tokens : goal.invariant-tokens
invariant-tokens l = record {
  valid : IsFrameStack l.expander.store.now l.expander.frames.items (vec_capacity l.expander.frames);
}
