use Rattle.std.proofs.Common.{rules}
use Rattle.cweb_rules.proofs.literals.literal_prefix.Goals as goal

pub returns-in-76 : goal.returns-in-76
returns-in-76 c = search rules
