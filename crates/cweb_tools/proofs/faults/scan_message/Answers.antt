use Rattle.std.proofs.Common.{rules}
use Rattle.cweb_tools.proofs.faults.scan_message.Goals as goal

pub returns-in-NamesDoNotNest : goal.returns-in-NamesDoNotNest
returns-in-NamesDoNotNest c = search rules
