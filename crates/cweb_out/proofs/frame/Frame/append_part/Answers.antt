use Rattle.cweb_out.proofs.Common.{arith}
use Rattle.cweb_out.proofs.Suffixes.{suffix-passed}
use Rattle.cweb_out.proofs.frame.Frame.append_part.Goals as goal

pub returns-then-self-clause-prints : goal.returns-then-self-clause-prints
returns-then-self-clause-prints c = grind (arith, suffix-passed)
