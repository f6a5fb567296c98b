use Rattle.std.proofs.Common.{rules}
use Rattle.cweb_files.proofs.memory.MemorySinkSink.failures.Goals as goal

pub returns : goal.returns
returns c = search rules
