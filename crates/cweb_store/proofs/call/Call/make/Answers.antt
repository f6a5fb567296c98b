use Rattle.std.proofs.Common.{rules}
use Rattle.cweb_store.proofs.call.Call.make.Goals as goal

pub returns-in-Closes-clause-ok : goal.returns-in-Closes-clause-ok
returns-in-Closes-clause-ok c = search rules
