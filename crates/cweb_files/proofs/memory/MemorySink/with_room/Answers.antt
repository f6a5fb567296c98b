use Rattle.std.proofs.Common.{rules}
use Rattle.cweb_files.proofs.memory.MemorySink.with_room.Goals as goal

pub returns-clause-failed : goal.returns-clause-failed
returns-clause-failed c = search rules

pub returns-clause-room : goal.returns-clause-room
returns-clause-room c = search rules
