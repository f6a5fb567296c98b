use Rattle.std.proofs.Common.{arith}
use Rattle.cweb_system.proofs.Steps.{keeps, removes_decent}
use Rattle.cweb_system.proofs.drafts.steps.remove_at.Goals as goal

pub returns-clause-decent : goal.returns-clause-decent
returns-clause-decent g c read = grind (arith, keeps, removes_decent)
