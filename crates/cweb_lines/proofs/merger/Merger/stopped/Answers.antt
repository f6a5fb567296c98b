use Rattle.cweb_lines.proofs.Common.{rules}
use Rattle.cweb_lines.proofs.merger.Merger.stopped.Goals as goal

pub returns-clause-stop : goal.returns-clause-stop
returns-clause-stop g c = search rules
