use Rattle.cweb_store.proofs.Common.{arith}
use Rattle.cweb_store.proofs.StoredLemmas.{first-place}
use Rattle.cweb_store.proofs.store.Store.name_text.Goals as goal

pub text-requires : goal.text-requires
text-requires c = grind (arith, first-place)

pub returns : goal.returns
returns c = grind (arith, first-place)
