use Rattle.cweb_lines.proofs.Common.{rules}
use Rattle.cweb_lines.proofs.counters.TakenCounters.has_room.Goals as goal

pub returns-then-size-self-clause-lines : goal.returns-then-size-self-clause-lines
returns-then-size-self-clause-lines c = search rules
