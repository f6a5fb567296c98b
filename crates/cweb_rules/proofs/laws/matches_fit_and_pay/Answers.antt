use Rattle.cweb_rules.proofs.MatchesPay.{prefix_in-fair}
use Rattle.cweb_rules.proofs.laws.matches_fit_and_pay.Goals as goal

pub returns : goal.returns
returns c = λ context includes b t. prefix_in-fair context includes b t
