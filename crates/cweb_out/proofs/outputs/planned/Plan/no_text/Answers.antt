use Rattle.std.proofs.Common.{rules}
use Rattle.cweb_out.proofs.outputs.planned.Plan.no_text.Goals as goal

pub returns : goal.returns
returns c = search rules
