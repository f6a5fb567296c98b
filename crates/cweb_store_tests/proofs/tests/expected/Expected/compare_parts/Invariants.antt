use Rattle.std.proofs.Common.{◌≤◌, length}
use Rattle.std.specs.Prelude.{All}
use Rattle.cweb_store.specs.Parts.{all_tokens}
use Rattle.cweb_store_tests.proofs.tests.expected.Expected.compare_parts.Given as goal

abbrev pub invariant-loop-part : goal.invariant-loop-part
invariant-loop-part l = All (λ p. p.after ≤ length (all_tokens l.store.parts)) l.part-iterator
