use Rattle.cweb_out.proofs.Common.{arith, length-take-le}
use Rattle.cweb_out.proofs.OverlappingEnds.{rest_in_prefix, whole_again}
use Rattle.cweb_out.proofs.buffer.OutBuffer.drop_first.Goals as goal

pub returns : goal.returns
returns c = grind (arith, length-take-le, whole_again, rest_in_prefix)
