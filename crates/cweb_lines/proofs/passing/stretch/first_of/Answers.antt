use Rattle.cweb_lines.proofs.Common.{arith}
use Rattle.cweb_lines.proofs.LinesInBuffer.{first_place}
use Rattle.cweb_lines.proofs.passing.stretch.first_of.Goals as goal

pub returns-clause-lines : goal.returns-clause-lines
returns-clause-lines g c = grind (arith, first_place)
