use Rattle.cweb_lines.proofs.Common.{arith}
use Rattle.cweb_lines.proofs.TrimmedLines.{trims_more, trims_all}
use Rattle.cweb_lines.proofs.open_source.take.trimmed_length.Goals as goal

pub blanks-preserved : goal.blanks-preserved
blanks-preserved c = grind (arith, trims_more)

pub returns-then-not-is_blank-clause-trimmed : goal.returns-then-not-is_blank-clause-trimmed
returns-then-not-is_blank-clause-trimmed c = grind (arith, trims_all)
