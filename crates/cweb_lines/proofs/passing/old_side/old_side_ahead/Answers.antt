use Rattle.cweb_lines.proofs.Common.{arith}
use Rattle.cweb_lines.proofs.LinesAhead.{few_ahead}
use Rattle.cweb_lines.proofs.passing.old_side.old_side_ahead.Goals as goal

pub lines-smaller : goal.lines-smaller
lines-smaller g c =
    let part = c.in_ok-ahead-2.ensures.part c.args.first.now c.lines.invariant.part in
    omega (
      arith,
      c.in_ok-ahead-2.ensures.count,
      few_ahead c.args.change.now c.in_ok-ahead-2.ahead.side part.olds part.last part.side_is,
    )
