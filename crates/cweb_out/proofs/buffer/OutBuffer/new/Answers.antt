use Rattle.std.proofs.Common.{rules}
use Rattle.cweb_out.proofs.buffer.OutBuffer.new.Goals as goal

pub returns : goal.returns
returns c = search rules
