use Rattle.std.proofs.lemmas.Result.{err_from_is_err_and}
use Rattle.cweb_out.proofs.Common.{arith}
use Rattle.cweb_out.proofs.Finds.{find-more}
use Rattle.cweb_out.proofs.PlanLemmas.{names-err, names-more}
use Rattle.cweb_out.proofs.outputs.planning.outputs.Goals as goal

pub returns-in_err-output : goal.returns-in_err-output
returns-in_err-output c = grind (arith, err_from_is_err_and, names-err)

pub roots-preserved : goal.roots-preserved
roots-preserved c = grind (arith, find-more, names-more)
