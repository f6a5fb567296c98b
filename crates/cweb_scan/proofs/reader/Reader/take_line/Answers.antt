use Rattle.cweb_scan.proofs.Common.{arith}
use Rattle.cweb_scan.proofs.SkippedLines.{text_passed}
use Rattle.cweb_scan.proofs.reader.Reader.take_line.Goals as goal

pub returns-then-passes_by : goal.returns-then-passes_by
returns-then-passes_by c = grind (arith, text_passed)
