use Rattle.cweb_lines.proofs.ReplacedLines.{replaced}
use Rattle.cweb_lines.proofs.laws.change_replaces_lines.Goals as goal

pub returns : goal.returns
returns c = replaced
