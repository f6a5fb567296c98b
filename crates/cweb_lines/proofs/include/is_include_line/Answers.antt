use Rattle.cweb_lines.proofs.Common.{rules}
use Rattle.cweb_lines.proofs.include.is_include_line.Goals as goal

pub returns-else-line-eq105 : goal.returns-else-line-eq105
returns-else-line-eq105 c = search rules
