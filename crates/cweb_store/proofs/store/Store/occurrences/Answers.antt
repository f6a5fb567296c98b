use Rattle.cweb_store.proofs.Common.{arith}
use Rattle.cweb_store.proofs.BoundLemmas.{resolutions-length}
use Rattle.cweb_store.proofs.store.Store.occurrences.Goals as goal

pub returns : goal.returns
returns c = grind (arith, resolutions-length)
