use Rattle.cweb_store.proofs.Common.{arith}
use Rattle.cweb_store.proofs.PartRangeLemmas.{runs_from-parts}
use Rattle.cweb_store.proofs.parts.closed.ClosedParts.ranges.Goals as goal

pub returns-clause-ranges : goal.returns-clause-ranges
returns-clause-ranges c = grind (arith, runs_from-parts)
