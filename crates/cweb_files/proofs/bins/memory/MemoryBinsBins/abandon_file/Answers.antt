use Rattle.std.proofs.Common.{rules}
use Rattle.cweb_files.proofs.bins.memory.MemoryBinsBins.abandon_file.Goals as goal

pub returns-clause-gone : goal.returns-clause-gone
returns-clause-gone c = search rules
