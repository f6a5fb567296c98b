use Rattle.cweb_scan.proofs.Common.{IsLine-take, include_match, arith, punctuator_fits}
use Rattle.cweb_rules.proofs.UnitNewlines.{none-ends}
use Rattle.cweb_scan.proofs.scanner.Scanner.take_rule.Goals as goal

pub split_at-requires-in_default : goal.split_at-requires-in_default
split_at-requires-in_default c =
    omega (arith, c.punctuator_len-size.ensures, punctuator_fits c.args.rest.bytes.now c.args.rest.some)

pub take_quoted-requires-clause-lines : goal.take_quoted-requires-clause-lines
take_quoted-requires-clause-lines c =
    none-ends _ (IsLine-take (include_match c.args.rest.bytes.now).size c.args.rest.bytes.now c.args.rest.line)
