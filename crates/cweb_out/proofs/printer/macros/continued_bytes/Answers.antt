use Rattle.std.proofs.Common.{rules}
use Rattle.cweb_out.proofs.printer.macros.continued_bytes.Goals as goal

pub returns-in-LineEnd : goal.returns-in-LineEnd
returns-in-LineEnd c = search rules
