use Rattle.cweb_lines.proofs.Common.{arith}
use Rattle.cweb_lines.proofs.LinesAhead.{few_ahead, more_ahead}
use Rattle.cweb_lines.proofs.passing.next.one_more_ahead.Goals as goal

pub then-requires : goal.then-requires
then-requires g c =
    omega (
      arith,
      few_ahead c.args.slot.now c.args.lines c.requires.0 c.requires.1 c.requires.2,
      c.in_ok-next.ensures.one,
    )

pub returns-clause-more : goal.returns-clause-more
returns-clause-more g c = λ before raw ahead. more_ahead c.args.slot.now c.in-Some.text c.args.lines c.in_ok-next.next
    c.then.result before raw c.in-Some.is ahead c.in_ok-next.ensures.line c.in_ok-next.ensures.one
    (omega (arith, c.if-next-text.false)) c.then.ensures.text c.then.ensures.end c.then.ensures.lines
