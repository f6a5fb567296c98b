use Rattle.cweb_scan.proofs.Common.{arith}
use Rattle.cweb_store.proofs.Squeezing.{squeezed_stays}
use Rattle.cweb_scan.proofs.scanner.Scanner.add_occurrence.Goals as goal

pub returns-then-is_squeezed-clause-ok : goal.returns-then-is_squeezed-clause-ok
returns-then-is_squeezed-clause-ok c = grind (arith, squeezed_stays)
