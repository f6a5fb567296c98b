use Rattle.std.proofs.Common.{rules}
use Rattle.cweb_files.proofs.bins.memory.MemoryBinsSink.write.Goals as goal

pub returns-then-is_err-clause-err : goal.returns-then-is_err-clause-err
returns-then-is_err-clause-err c = search rules

pub returns-then-is_err-clause-within_room : goal.returns-then-is_err-clause-within_room
returns-then-is_err-clause-within_room c = search rules
