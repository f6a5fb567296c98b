use Rattle.cweb_lines.proofs.Common.{[], cut_lines}
use Rattle.cweb_lines.proofs.PlainLines.{emits_all}
use Rattle.cweb_lines.proofs.laws.web_without_includes_is_its_own_lines.Goals as goal

pub returns : goal.returns
returns c = λ world web none. emits_all world [] 1 1 (cut_lines web) none
