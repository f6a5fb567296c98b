use Rattle.std.proofs.Common.{rules}
use Rattle.cweb_files.proofs.bins.memory.MemoryBinsBins.start_file.Goals as goal

pub returns-in_default-clause-err : goal.returns-in_default-clause-err
returns-in_default-clause-err c = search rules

pub returns-then-is_err-clause-err : goal.returns-then-is_err-clause-err
returns-then-is_err-clause-err c = search rules
