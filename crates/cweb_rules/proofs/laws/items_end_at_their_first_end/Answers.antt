use Rattle.cweb_rules.proofs.Reaching.{items_end_at_their_first_end, rules_pass_bytes}
use Rattle.cweb_rules.proofs.laws.items_end_at_their_first_end.Goals as goal

pub returns-clause-first : goal.returns-clause-first
returns-clause-first c = items_end_at_their_first_end

pub returns-clause-rules : goal.returns-clause-rules
returns-clause-rules c = rules_pass_bytes
