use Rattle.cweb_lines.proofs.Common.{◌≡◌, ◌-◌, ℕ, List, [], ◌∷◌, ◌++◌, ◌∙◌, ap, subst, arith, length, OnlyLastExceeds}
use Rattle.cweb_lines.proofs.Passes.{passes_next, passes_none, passes_then}
use Rattle.cweb_lines.proofs.merger.Merger.pass_lines.Goals as goal

pub lines-init : goal.lines-init
lines-init g c = record { passes = passes_none _ _ _ }

pub returns-in_err-pass_change-clause-passes : goal.returns-in_err-pass_change-clause-passes
returns-in_err-pass_change-clause-passes g c =
    passes_then _ _ _ _ _ _ _ c.lines.invariant.passes c.pass_change.ensures.passes

pub returns-else-branch-clause-passes : goal.returns-else-branch-clause-passes
returns-else-branch-clause-passes g c =
    passes_then _ _ _ _ _ _ _ c.lines.invariant.passes c.pass_change.ensures.passes

pub lines-preserved-then-branch : goal.lines-preserved-then-branch
lines-preserved-then-branch g c =
    record { passes = passes_then _ _ _ _ _ _ _ c.lines.invariant.passes c.pass_change.ensures.passes }

pub lines-smaller : goal.lines-smaller
lines-smaller g c =
    let next = c.ahead_up_to-ahead.ensures.lines in
    omega (arith, (c.take_ahead.ensures next.0 next.1).count, next.1.room.few, next.3)

pub lines-preserved : goal.lines-preserved
lines-preserved g c =
    let next = c.ahead_up_to-ahead.ensures.lines in
    let buffer = c.lines.buffer in
    let size : c.len-in-lines.result ≡ length buffer.items = omega (arith, c.len-in-lines.ensures, buffer.ok.0) in
    record {
      passes = passes_then _ _ _ _ _ _ _ c.lines.invariant.passes
          (passes_next _ _ _ c.ahead_up_to-ahead.result.stretch next.0 _ _ next.1
          (c.take_ahead.ensures next.0 next.1).emitted
          (c.in_ok-append_line.ensures.ok ∙ ap (λ (t : List ℕ). buffer.items ++ t ++ 10 ∷ []) c.printed.ensures)
          (omega (arith, c.lines-test.true, c.len.ensures, buffer.ok.0))
          (subst (λ (n : ℕ). OnlyLastExceeds (c.args.room - n) next.0) size next.2));
    }
