use Rattle.std.specs.Prelude.{◌≡◌, drop}
use Rattle.cweb_system_tests.specs.inner.Layout.{value_of}
use Rattle.cweb_system_tests.proofs.memory_folder.layout.first_of.Given as goal

abbrev pub invariant-loop-fact : goal.invariant-loop-fact
invariant-loop-fact g l = value_of l.facts l.path ≡ value_of (drop l.fact-index l.facts) l.path
