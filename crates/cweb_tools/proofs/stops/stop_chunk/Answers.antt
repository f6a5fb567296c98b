use Rattle.std.proofs.Common.{rules}
use Rattle.cweb_tools.proofs.stops.stop_chunk.Goals as goal

pub returns-in-LineTooLong : goal.returns-in-LineTooLong
returns-in-LineTooLong c = search rules
