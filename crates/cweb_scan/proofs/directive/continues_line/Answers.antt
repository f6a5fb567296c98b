use Rattle.std.proofs.Common.{rules}
use Rattle.cweb_scan.proofs.directive.continues_line.Goals as goal

pub returns-in-Backslash : goal.returns-in-Backslash
returns-in-Backslash c = search rules
