use Rattle.cweb_out.proofs.Common.{arith}
use Rattle.cweb_out.proofs.Suffixes.{suffix-first}
use Rattle.cweb_out.proofs.frame.Frame.take_name.Goals as goal

pub returns-clause-some : goal.returns-clause-some
returns-clause-some c = grind (arith, suffix-first)
