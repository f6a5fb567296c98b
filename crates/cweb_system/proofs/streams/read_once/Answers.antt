use Rattle.std.proofs.Common.{rules}
use Rattle.cweb_system.proofs.streams.read_once.Goals as goal

pub returns-in_default : goal.returns-in_default
returns-in_default c = search rules

pub returns-in-Ok-clause-passes : goal.returns-in-Ok-clause-passes
returns-in-Ok-clause-passes c = search rules
