use Rattle.cweb_lines.proofs.Common.{arith, rules}
use Rattle.cweb_lines.proofs.MergeStateEvents.{files_in-at}
use Rattle.cweb_lines.proofs.merger.Merger.faults.Goals as goal

pub returns-clause-known : goal.returns-clause-known
returns-clause-known g c = grind (arith, files_in-at)

pub returns-clause-value : goal.returns-clause-value
returns-clause-value g c = search rules
