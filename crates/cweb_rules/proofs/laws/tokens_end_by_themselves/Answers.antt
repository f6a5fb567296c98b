use Rattle.cweb_rules.proofs.Tokens.{tokens_stay}
use Rattle.cweb_rules.proofs.laws.tokens_end_by_themselves.Goals as goal

pub returns : goal.returns
returns c = tokens_stay
