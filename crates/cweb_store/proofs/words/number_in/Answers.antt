use Rattle.cweb_store.proofs.Common.{rules}
use Rattle.cweb_store.proofs.words.number_in.Goals as goal

pub returns-clause-inserted : goal.returns-clause-inserted
returns-clause-inserted c = record { key = c.in_ok-key.key; is = c.in_ok-key.ensures.items; now = search rules }
