use Rattle.cweb_store.proofs.Common.{arith}
use Rattle.std.proofs.lemmas.Option.{slice_get_read}
use Rattle.cweb_store.proofs.LinkLemmas.{followed-none, followed-ended, followed-next}
use Rattle.cweb_store.proofs.parts.iter.PartsIterator.next.Goals as goal

pub returns-in_default-clause-steps : goal.returns-in_default-clause-steps
returns-in_default-clause-steps c = grind (arith, followed-none)

pub returns-in_default-get-clause-steps : goal.returns-in_default-get-clause-steps
returns-in_default-get-clause-steps c = grind (arith, followed-ended)

pub returns-clause-steps : goal.returns-clause-steps
returns-clause-steps c = grind (arith, followed-next, slice_get_read)

pub returns-clause-goes : goal.returns-clause-goes
returns-clause-goes c = grind (arith, returns-clause-steps)
