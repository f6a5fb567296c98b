use Rattle.cweb_rules.proofs.Tokens.{tokens_begin}
use Rattle.cweb_rules.proofs.laws.tokens_begin_by_kind.Goals as goal

pub returns : goal.returns
returns c = tokens_begin
