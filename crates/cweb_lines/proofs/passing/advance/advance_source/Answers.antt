use Rattle.cweb_lines.proofs.Common.{arith}
use Rattle.cweb_lines.proofs.LinesInBuffer.{takes_lines}
use Rattle.cweb_lines.proofs.passing.advance.advance_source.Goals as goal

pub returns-clause-passes : goal.returns-clause-passes
returns-clause-passes g c = grind (arith, takes_lines)
