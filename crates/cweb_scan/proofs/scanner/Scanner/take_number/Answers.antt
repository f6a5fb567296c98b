use Rattle.cweb_scan.proofs.Common.{arith}
use Rattle.cweb_scan.proofs.Plains.{stays_plain}
use Rattle.cweb_scan.proofs.Furthers.{number_turn}
use Rattle.cweb_scan.proofs.scanner.Scanner.take_number.Goals as goal

pub returns : goal.returns
returns c = grind (arith, number_turn, stays_plain)
