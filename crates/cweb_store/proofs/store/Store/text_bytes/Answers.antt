use Rattle.cweb_store.proofs.Common.{arith}
use Rattle.cweb_store.proofs.StoredStringLemmas.{bytes-few}
use Rattle.cweb_store.proofs.store.Store.text_bytes.Goals as goal

pub returns-clause-strings : goal.returns-clause-strings
returns-clause-strings c = grind arith

pub returns-clause-once : goal.returns-clause-once
returns-clause-once c = grind arith

pub returns-clause-few : goal.returns-clause-few
returns-clause-few c = grind (arith, bytes-few)
