use Rattle.std.proofs.Common.{arith}
use Rattle.cweb_system.proofs.Steps.{appends_decent, keeps}
use Rattle.cweb_system.proofs.drafts.steps.write_to.Goals as goal

pub returns-clause-decent : goal.returns-clause-decent
returns-clause-decent g c read = grind (arith, keeps, appends_decent)
