use Rattle.std.proofs.Common.{rules}
use Rattle.cweb_tools.proofs.about.write_about.Goals as goal

pub returns-in-Err-clause-ok : goal.returns-in-Err-clause-ok
returns-in-Err-clause-ok g c = search rules
