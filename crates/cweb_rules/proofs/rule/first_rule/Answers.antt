use Rattle.std.proofs.Common.{rules}
use Rattle.cweb_rules.proofs.rule.first_rule.Goals as goal

pub returns-then-starts_include : goal.returns-then-starts_include
returns-then-starts_include c = search rules
