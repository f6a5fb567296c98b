use Rattle.cweb_lines.proofs.IncludeLaws.{include_lines}
use Rattle.cweb_lines.proofs.laws.include_line_is_replaced.Goals as goal

pub returns : goal.returns
returns c = include_lines
