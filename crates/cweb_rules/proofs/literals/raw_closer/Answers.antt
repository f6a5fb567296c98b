use Rattle.std.proofs.Common.{rules}
use Rattle.cweb_rules.proofs.literals.raw_closer.Goals as goal

pub returns : goal.returns
returns c = search rules
