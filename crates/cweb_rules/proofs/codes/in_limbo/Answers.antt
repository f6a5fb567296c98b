use Rattle.std.proofs.Common.{rules}
use Rattle.cweb_rules.proofs.codes.in_limbo.Goals as goal

pub returns-in-108 : goal.returns-in-108
returns-in-108 c = search rules
