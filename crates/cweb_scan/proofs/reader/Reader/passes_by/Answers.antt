use Rattle.std.proofs.Common.{rules}
use Rattle.cweb_scan.proofs.reader.Reader.passes_by.Goals as goal

pub returns-then-self : goal.returns-then-self
returns-then-self c = search rules
