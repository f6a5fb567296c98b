use Rattle.std.proofs.Common.{rules}
use Rattle.cweb_out.proofs.printer.macros.continued.Goals as goal

pub returns-in-Newline : goal.returns-in-Newline
returns-in-Newline c = search rules
