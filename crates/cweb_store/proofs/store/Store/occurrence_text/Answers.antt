use Rattle.cweb_store.proofs.Common.{arith}
use Rattle.cweb_store.proofs.store.Store.occurrence_text.Goals as goal

pub returns : goal.returns
returns c = grind arith
