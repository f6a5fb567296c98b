use Rattle.cweb_store.proofs.Common.{arith}
use Rattle.cweb_store.proofs.PartRangeLemmas.{whole-tokens}
use Rattle.cweb_store.proofs.parts.closed.ClosedParts.tokens.Goals as goal

pub returns-clause-tokens : goal.returns-clause-tokens
returns-clause-tokens c = grind (arith, whole-tokens)
