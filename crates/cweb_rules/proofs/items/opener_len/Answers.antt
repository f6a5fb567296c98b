use Rattle.std.proofs.Common.{rules}
use Rattle.cweb_rules.proofs.items.opener_len.Goals as goal

pub returns-then-begins-3 : goal.returns-then-begins-3
returns-then-begins-3 c = search rules
