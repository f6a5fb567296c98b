use Rattle.std.proofs.Common.{rules}
use Rattle.cweb_rules.proofs.units.push_unit.Goals as goal

pub returns-then-eq : goal.returns-then-eq
returns-then-eq c = search rules
