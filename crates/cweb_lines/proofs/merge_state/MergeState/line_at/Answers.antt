use Rattle.cweb_lines.proofs.Common.{◌<◌, ◌-◌, ap, length, arith, line_number, number_or_zero}
use Rattle.cweb_lines.proofs.SourceStacks.{most_read}
use Rattle.cweb_lines.proofs.merge_state.MergeState.line_at.Goals as goal

pub overflow_add-result : goal.overflow_add-result
overflow_add-result g c =
    let run = c.args.self.now in
    let within : run.stack.depth - 1 < length run.stack.texts = omega arith in
    omega (
      arith,
      most_read line_number run.stack.texts (run.stack.depth - 1) c.index-self-self.result within,
      ap (number_or_zero line_number) c.index-self-self.is,
      ap (number_or_zero line_number) c.in-Some.is,
      run.numbers,
      run.limits.few,
    )
