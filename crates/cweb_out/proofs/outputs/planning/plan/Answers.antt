use Rattle.std.proofs.Common.{rules}
use Rattle.cweb_out.proofs.outputs.planning.plan.Goals as goal

pub returns-in-Some : goal.returns-in-Some
returns-in-Some c = search rules
