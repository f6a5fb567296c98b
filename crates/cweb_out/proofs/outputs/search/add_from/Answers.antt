use Rattle.std.proofs.Common.{rules}
use Rattle.cweb_out.proofs.outputs.search.add_from.Goals as goal

pub returns-in_ok-push : goal.returns-in_ok-push
returns-in_ok-push c = search rules
