use Rattle.cweb_rules.proofs.Common.{◌<◌, arith}
use Rattle.cweb_rules.proofs.FirstTable.{word_known}
use Rattle.cweb_rules.proofs.bytes.is_word_byte.Goals as goal

pub returns : goal.returns
returns c = let small : c.args.byte < 256 = omega (arith, c.ranges.byte.fits) in word_known c.args.byte small
