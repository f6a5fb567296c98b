use Rattle.std.proofs.Common.{rules}
use Rattle.cweb_tools.proofs.program.out_of_memory.Goals as goal

pub returns-clause-logs : goal.returns-clause-logs
returns-clause-logs g c = search rules
