use Rattle.cweb_lines.proofs.Common.{rules, refl, arith}
use Rattle.cweb_lines.proofs.ReportsOnlyGrow.{reported_same}
use Rattle.cweb_lines.proofs.Merges.{yields_line, merge_emitted}
use Rattle.cweb_lines.proofs.step.obey.emit_or_obey.Goals as goal

pub returns-then-not-is_include_line-clause-obeys : goal.returns-then-not-is_include_line-clause-obeys
returns-then-not-is_include_line-clause-obeys g c = record {
  same = refl;
  readers = λ seen it known. known;
  still = reported_same _ _ refl refl;
  only = search rules;
  yields = grind (arith, merge_emitted, yields_line, c.requires.plain, c.is_include_line.ensures);
}
