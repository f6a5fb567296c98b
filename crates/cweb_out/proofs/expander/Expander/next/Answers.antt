use Rattle.std.proofs.Common.{rules}
use Rattle.cweb_out.proofs.expander.Expander.next.Goals as goal

pub tokens-preserved : goal.tokens-preserved
tokens-preserved c = search rules

pub tokens-init : goal.tokens-init
tokens-init c = search rules
