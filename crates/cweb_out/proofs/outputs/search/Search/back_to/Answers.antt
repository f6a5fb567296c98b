use Rattle.cweb_out.proofs.Common.{arith}
use Rattle.cweb_out.proofs.Walks.{from-more}
use Rattle.cweb_out.proofs.outputs.search.Search.back_to.Goals as goal

pub path-preserved : goal.path-preserved
path-preserved c = grind (arith, from-more)
