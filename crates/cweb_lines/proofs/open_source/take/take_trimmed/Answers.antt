use Rattle.cweb_lines.proofs.Common.{arith}
use Rattle.cweb_lines.proofs.TrimmedLines.{trimmed-line, trimmed-length}
use Rattle.cweb_lines.proofs.open_source.take.take_trimmed.Goals as goal

pub returns : goal.returns
returns g c = grind (arith, trimmed-line, trimmed-length)
