use Rattle.cweb_out.proofs.Common.{None, length, FrameIsWithin, suffix, root_list, IsScanned}
use Rattle.cweb_out.specs.inner.Search.{IsIdle}
use Rattle.cweb_out.proofs.outputs.search.Search.settle_program.Given as goal

abbrev pub invariant-names : goal.invariant-names
invariant-names l = record {
  idle : IsIdle l.store l.self;
  within : FrameIsWithin l.store l.text;
  looked : IsScanned l.store (root_list l.store None) l.text None;
}

abbrev pub decreases-names : goal.decreases-names
decreases-names l = length (suffix l.store l.text)
