use Rattle.cweb_lines.proofs.Common.{rules}
use Rattle.cweb_lines.proofs.cut.refill.Goals as goal

pub returns-in-Err-clause-reads : goal.returns-in-Err-clause-reads
returns-in-Err-clause-reads g c = search rules
