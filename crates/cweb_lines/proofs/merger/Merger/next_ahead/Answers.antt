use Rattle.cweb_lines.proofs.Common.{◌≡◌, ◌-◌, ◌<◌, ◌∙◌, ℕ, List, None, Some, ap, arith, length, subst, get_or_default, IfSome, FitsLimitsAt, LooksAheadIn, IsStretchAt, pending_in, line_number, number_or_zero, top_of, rules}
use Rattle.cweb_lines.proofs.SourceStacks.{most_at}
use Rattle.cweb_lines.proofs.Lookahead.{are_ahead, looks_next}
use Rattle.cweb_lines.proofs.merger.Merger.next_ahead.Goals as goal

pub returns-in-Some-clause-looks : goal.returns-in-Some-clause-looks
returns-in-Some-clause-looks g c =
    let run = c.args.self.now.run in
    let within : run.stack.depth - 1 < length run.stack.texts = omega arith in
    let top : top_of run.stack ≡ Some c.in-Some.text =
    get_or_default run.stack.texts (run.stack.depth - 1) None c.index-run-run.result within
    ∙ c.in-Some.is in
    looks_next run (Some c.in-Some.text) c.args.before.stretch c.line_after.result top c.requires.fits
    (subst (λ (first : List ℕ). IfSome c.line_after.result (λ ahead. (lines : List (List ℕ))
    → IsStretchAt (pending_in run.stage first) (Some c.in-Some.text) c.args.before.stretch lines → LooksAheadIn
    (pending_in run.stage first) (Some c.in-Some.text) lines ahead)) c.deref.ensures.value c.line_after.ensures)

pub returns-in-Some-clause-ahead : goal.returns-in-Some-clause-ahead
returns-in-Some-clause-ahead g c =
    are_ahead c.args.self.now.run c.args.before c.line_after.result c.requires (returns-in-Some-clause-looks g c)

pub line_after-requires-clause-fits : goal.line_after-requires-clause-fits
line_after-requires-clause-fits g c =
    let run = c.args.self.now.run in
    let within : run.stack.depth - 1 < length run.stack.texts = omega arith in
    let top : top_of run.stack ≡ Some c.in-Some.text =
    get_or_default run.stack.texts (run.stack.depth - 1) None c.index-run-run.result within ∙ c.in-Some.is in (
      run.limits,
      subst (FitsLimitsAt run.limits) top c.requires.fits,
      omega (
        arith,
        ap (number_or_zero line_number) top,
        most_at line_number run.stack.texts (run.stack.depth - 1),
        run.numbers,
      ),
    )

pub line_after-requires-clause-joins : goal.line_after-requires-clause-joins
line_after-requires-clause-joins g c = search rules
