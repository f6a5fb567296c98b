use Rattle.std.proofs.Common.{rules}
use Rattle.cweb_rules.proofs.items.Item.look.Goals as goal

pub returns-in-Comment-clause-value : goal.returns-in-Comment-clause-value
returns-in-Comment-clause-value c = search rules
