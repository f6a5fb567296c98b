use Rattle.cweb_scan.proofs.Common.{arith, punctuator_fits}
use Rattle.cweb_scan.proofs.Furthers.{operator_token, operator_turn}
use Rattle.cweb_scan.proofs.Plains.{stays_plain}
use Rattle.cweb_scan.proofs.scanner.Scanner.take_operator.Goals as goal

pub split_at-requires : goal.split_at-requires
split_at-requires c =
    omega (arith, c.punctuator_len-size.ensures, punctuator_fits c.args.rest.bytes.now c.args.rest.some)

pub returns : goal.returns
returns c = grind (arith, operator_turn, stays_plain, operator_token)
