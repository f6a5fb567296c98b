use Rattle.std.proofs.Common.{rules}
use Rattle.cweb_rules.proofs.bytes.starts_section.Goals as goal

pub returns-in-32 : goal.returns-in-32
returns-in-32 c = search rules
