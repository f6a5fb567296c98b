use Rattle.cweb_lines.proofs.Common.{arith, pending_in}
use Rattle.cweb_lines.proofs.Lookahead.{few_after, looks_after}
use Rattle.cweb_lines.proofs.merger.ahead.line_after.Goals as goal

pub overflow_add-result : goal.overflow_add-result
overflow_add-result g c =
    let fits = c.requires.fits in
    let in_place = c.requires.before in
    omega (
      arith,
      few_after (pending_in c.args.stage c.args.first.now) c.args.text.now fits.0 c.args.before c.in_ok-next.next
          in_place.0
          fits.1 fits.2 in_place.1 c.in_ok-next.ensures.line c.in_ok-next.ensures.one,
    )

pub overflow_add-result-2 : goal.overflow_add-result-2
overflow_add-result-2 g c =
    let fits = c.requires.fits in
    let in_place = c.requires.before in
    omega (
      arith,
      few_after (pending_in c.args.stage c.args.first.now) c.args.text.now fits.0 c.args.before c.in_ok-next.next
          in_place.0
          fits.1 fits.2 in_place.1 c.in_ok-next.ensures.line c.in_ok-next.ensures.one,
    )

pub then-requires : goal.then-requires
then-requires g c =
    let fits = c.requires.fits in
    let in_place = c.requires.before in
    omega (
      arith,
      c.in_ok-next.ensures.one,
      few_after (pending_in c.args.stage c.args.first.now) c.args.text.now fits.0 c.args.before c.in_ok-next.next
          in_place.0
          fits.1 fits.2 in_place.1 c.in_ok-next.ensures.line c.in_ok-next.ensures.one,
    )

pub returns : goal.returns
returns g c = grind (arith, looks_after)
