use Rattle.cweb_store.proofs.Common.{arith}
use Rattle.cweb_store.proofs.store.Store.new.Goals as goal

pub invariant_of-result : goal.invariant_of-result
invariant_of-result c = grind arith
