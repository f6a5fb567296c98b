use Rattle.cweb_store.proofs.Common.{arith}
use Rattle.cweb_store.proofs.RangeLemmas.{Follow-at}
use Rattle.cweb_store.proofs.parts.closed.ClosedParts.has_defs_code.Goals as goal

pub has_defs-requires-clause-ordered : goal.has_defs-requires-clause-ordered
has_defs-requires-clause-ordered c = grind (arith, Follow-at)

pub has_defs-requires-clause-within : goal.has_defs-requires-clause-within
has_defs-requires-clause-within c = grind (arith, Follow-at)
