use Rattle.std.proofs.Common.{◌≡◌, vec_capacity}
use Rattle.cweb_out.specs.surface.FrameStacks.{IsFrameStack}
use Rattle.cweb_out_tests.proofs.tests.reports.report_planned.Given as goal

abbrev pub invariant-outputs : goal.invariant-outputs
invariant-outputs g l = record {
  valid : IsFrameStack l.expander.store.now l.expander.frames.items (vec_capacity l.expander.frames);
  store : l.expander.store.now ≡ l.store;
  plan : l.expander.plan.now ≡ l.plan;
}
