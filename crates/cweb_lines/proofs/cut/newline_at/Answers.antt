use Rattle.cweb_lines.proofs.Common.{◌≡◌, ◌++◌, ◌+◌, ◌-◌, ◌∙◌, [], ℕ, List, Some, ap, drop, length, sym, subst, take, arith, append_assoc, length-append, take-append-drop, append-nil, length-take, SplitsAt}
use Rattle.cweb_lines.proofs.Newlines.{newline_at-memchr, no_newline-append, splits_after}
use Rattle.cweb_lines.proofs.cut.newline_at.Goals as goal

pub runs-preserved : goal.runs-preserved
runs-preserved c =
    let inv = c.runs.invariant in
    let rest = c.runs.rest.now in (
      inv.0 ++ take 32 rest,
      inv.1 ∙ ap (λ (l : List ℕ). inv.0 ++ l) (sym (take-append-drop 32 rest))
          ∙ sym (append_assoc inv.0 (take 32 rest) (drop 32 rest))
          ∙ ap (λ (l : List ℕ). (inv.0 ++ take 32 rest) ++ l) (sym c.split_at.ensures.back),
      no_newline-append inv.0 (take 32 rest) inv.2 c.in_default.ensures,
    )

prefix_size : (bytes prefix rest : List ℕ) (at : ℕ) → bytes ≡ prefix ++ rest
    → length prefix + at ≡ length bytes - length rest + at
prefix_size bytes prefix rest at is = omega (arith, ap (λ (l : List ℕ). length l) is, length-append prefix rest)

pub overflow_add-result : goal.overflow_add-result
overflow_add-result c =
    let inv = c.runs.invariant in
    let rest = c.runs.rest.now in
    omega (
      arith,
      c.in-Some.ensures.within,
      length-take 32 rest,
      ap (λ (l : List ℕ). length l) inv.1,
      length-append inv.0 rest,
      c.runs-test.true,
      c.type_inv.bytes,
    )

pub returns-in-Some : goal.returns-in-Some
returns-in-Some c =
    let inv = c.runs.invariant in
    let rest = c.runs.rest.now in
    let at = c.in-Some.at in
    subst (SplitsAt c.args.bytes.now) (prefix_size c.args.bytes.now inv.0 rest at inv.1)
    (splits_after c.args.bytes.now inv.0 (take 32 rest) (drop 32 rest) at
    (inv.1 ∙ ap (λ (l : List ℕ). inv.0 ++ l) (sym (take-append-drop 32 rest))) inv.2 c.in-Some.ensures)

pub returns : goal.returns
returns c =
    let inv = c.runs.invariant in
    let rest = c.runs.rest.now in
    let at = c.in_ok-at.at in
    subst (SplitsAt c.args.bytes.now) (prefix_size c.args.bytes.now inv.0 rest at inv.1)
    (splits_after c.args.bytes.now inv.0 rest [] at (inv.1 ∙ ap (λ (l : List ℕ). inv.0 ++ l) (sym (append-nil rest)))
    inv.2 (newline_at-memchr rest (Some at) c.in_ok-at.ensures))

pub returns-in_err-at : goal.returns-in_err-at
returns-in_err-at c = grind (arith, no_newline-append, newline_at-memchr)
