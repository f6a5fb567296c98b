use Rattle.std.proofs.Common.{rules}
use Rattle.cweb_scan.proofs.directive.is_hash.Goals as goal

pub returns-in-Punct : goal.returns-in-Punct
returns-in-Punct c = search rules
