use Rattle.cweb_rules.proofs.Common.{◌<◌, arith}
use Rattle.cweb_rules.proofs.FirstTable.{first_known}
use Rattle.cweb_rules.proofs.firsts.first_byte_class.Goals as goal

pub returns : goal.returns
returns c = let small : c.args.byte < 256 = omega (arith, c.ranges.byte.fits) in first_known c.args.byte _ small
