use Rattle.cweb_out.proofs.Common.{◌≡◌, None, take, map, find, output_of, is_bad}
use Rattle.cweb_out.specs.inner.Planning.{output_in}
use Rattle.cweb_out.proofs.outputs.planning.outputs.Given as goal

abbrev pub invariant-roots : goal.invariant-roots
invariant-roots l = record {
  good : find (is_bad l.store l.main) (take l.root-index l.roots) ≡ None;
  outputs : map output_in l.outputs.items ≡ map (output_of l.store l.main) (take l.root-index l.roots);
}
