use Rattle.cweb_scan.proofs.LexemesKeepTheirLines.{keeps_lines}
use Rattle.cweb_scan.proofs.laws.lexemes_keep_their_lines.Goals as goal

pub returns : goal.returns
returns c = keeps_lines
