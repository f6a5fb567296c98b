use Rattle.std.proofs.Common.{rules}
use Rattle.cweb_out.proofs.buffer.OutBuffer.clear.Goals as goal

pub returns : goal.returns
returns c = search rules
