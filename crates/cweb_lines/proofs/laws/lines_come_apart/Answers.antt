use Rattle.cweb_lines.proofs.IncludeLaws.{lines_apart}
use Rattle.cweb_lines.proofs.laws.lines_come_apart.Goals as goal

pub returns : goal.returns
returns c = lines_apart
