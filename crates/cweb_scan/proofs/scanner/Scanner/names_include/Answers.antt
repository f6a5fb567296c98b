use Rattle.cweb_scan.proofs.Common.{arith}
use Rattle.cweb_scan.proofs.Steps.{include-seen}
use Rattle.cweb_scan.proofs.scanner.Scanner.names_include.Goals as goal

pub returns : goal.returns
returns c = grind (arith, include-seen)
