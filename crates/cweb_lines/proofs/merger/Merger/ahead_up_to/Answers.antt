use Rattle.cweb_lines.proofs.Common.{◌≡◌, ◌-◌, ◌<◌, ◌∙◌, [], ◌∷◌, ◌++◌, None, Some, ap, subst, arith, length, length-append, get_or_default, FitsLimitsAt, line_number, number_or_zero, top_of}
use Rattle.cweb_lines.proofs.LinesInBuffer.{within_before}
use Rattle.cweb_lines.proofs.Lookahead.{in_source, is_ahead, looks_on}
use Rattle.cweb_lines.proofs.SourceStacks.{most_at}
use Rattle.cweb_lines.proofs.merger.Merger.ahead_up_to.Goals as goal

pub lines-init : goal.lines-init
lines-init g c =
    let looks = c.requires.looks in
    record {
      lines = (looks.raw ∷ [], looks.comes, λ more. absurd (omega (arith, more)), omega arith);
      is = c.requires.ahead;
    }

pub line_after-requires-clause-fits : goal.line_after-requires-clause-fits
line_after-requires-clause-fits g c =
    let run = c.args.self.now.run in
    let within : run.stack.depth - 1 < length run.stack.texts = omega arith in
    let top : top_of run.stack ≡ Some c.in-Some.text =
    get_or_default run.stack.texts (run.stack.depth - 1) None c.index-run-run.result within ∙ c.in-Some.is in (
      run.limits,
      subst (FitsLimitsAt run.limits) top c.lines.invariant.is.fits,
      omega (
        arith,
        ap (number_or_zero line_number) top,
        most_at line_number run.stack.texts (run.stack.depth - 1),
        run.numbers,
      ),
    )

pub lines-smaller : goal.lines-smaller
lines-smaller g c =
    let run = c.args.self.now.run in
    let before = c.lines.invariant.lines in
    let within : run.stack.depth - 1 < length run.stack.texts = omega arith in
    let top : top_of run.stack ≡ Some c.in-Some.text =
    get_or_default run.stack.texts (run.stack.depth - 1) None c.index-run-run.result within ∙ c.in-Some.is in
    let looks = looks_on run c.in-Some.text c.lines.ahead.stretch before.0 top before.1 c.in-Some-line_after.next _
    c.deref.ensures.value c.lines.invariant.is.fits (c.in-Some-line_after.ensures before.0) in
    omega (
      arith,
      looks.count,
      (in_source run c.in-Some.text c.lines.ahead.stretch before.0 top before.1).is.lines,
      looks.comes.room.few,
      length-append before.0 (looks.raw ∷ []),
    )

pub lines-preserved : goal.lines-preserved
lines-preserved g c =
    let run = c.args.self.now.run in
    let before = c.lines.invariant.lines in
    let fits = c.lines.invariant.is.fits in
    let within : run.stack.depth - 1 < length run.stack.texts = omega arith in
    let top : top_of run.stack ≡ Some c.in-Some.text =
    get_or_default run.stack.texts (run.stack.depth - 1) None c.index-run-run.result within ∙ c.in-Some.is in
    let looks = looks_on run c.in-Some.text c.lines.ahead.stretch before.0 top before.1 c.in-Some-line_after.next _
    c.deref.ensures.value fits (c.in-Some-line_after.ensures before.0) in
    let size = (in_source run c.in-Some.text c.lines.ahead.stretch before.0 top before.1).is.size in
    record {
      lines = (
        before.0 ++ looks.raw ∷ [],
        looks.comes,
        within_before c.args.room before.0 (looks.raw ∷ []) (omega arith) (omega (arith, size, c.if-ahead-text.true)),
        omega (arith, length-append before.0 (looks.raw ∷ [])),
      );
      is = is_ahead run before.0 c.in-Some-line_after.next fits looks;
    }
