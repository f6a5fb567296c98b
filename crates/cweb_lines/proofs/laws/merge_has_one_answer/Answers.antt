use Rattle.cweb_lines.proofs.Common.{sym, merge-run_steps, merge_yields}
use Rattle.cweb_lines.proofs.laws.merge_has_one_answer.Goals as goal

pub returns : goal.returns
returns c = λ world s. record {
  yields = merge_yields world s;
  only = λ events yields. sym (merge-run_steps yields.0 world s events yields.1);
}
