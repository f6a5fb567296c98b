use Rattle.cweb_out.proofs.Common.{◌≡◌, None, take, find, is_endless}
use Rattle.cweb_out.specs.inner.Search.{IsIdle}
use Rattle.cweb_out.proofs.outputs.search.first_cycle.Given as goal

abbrev pub invariant-roots : goal.invariant-roots
invariant-roots l = record {
  idle : IsIdle l.store l.search;
  before : find (is_endless l.store) (take l.root-index l.roots) ≡ None;
}
