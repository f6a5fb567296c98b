use Rattle.cweb_lines.proofs.Common.{rules}
use Rattle.cweb_lines.proofs.merger.Merger.halt.Goals as goal

pub returns-clause-again : goal.returns-clause-again
returns-clause-again g c = search rules
