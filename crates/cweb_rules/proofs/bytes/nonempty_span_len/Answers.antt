use Rattle.std.proofs.Common.{rules}
use Rattle.cweb_rules.proofs.bytes.nonempty_span_len.Goals as goal

pub returns-clause-value : goal.returns-clause-value
returns-clause-value c = search rules
