use Rattle.cweb_lines.proofs.Common.{arith}
use Rattle.cweb_lines.proofs.BufferedWrites.{loses_line}
use Rattle.cweb_lines.proofs.writing.write_merged.Goals as goal

pub returns : goal.returns
returns g c = grind (arith, loses_line)
