use Rattle.cweb_store.proofs.Common.{◌≡◌, suc, ◌-◌, take, drop, sym, ◌∙◌, ap, arith, without_blank, token_model}
use Rattle.cweb_store.proofs.LayoutStringLemmas.{blank-strings}
use Rattle.cweb_store.proofs.LayoutLemmas.{blank-dropped, blank-none, drop-all}
use Rattle.cweb_store.proofs.tokens.layout.end_before_blank.Goals as goal
use Rattle.cweb_store.proofs.tokens.layout.end_before_blank.Goals.{else-from-end-via-then-from-end+else-is_blank, else-from-end-via-else-from-end}

pub returns-then-is_blank-clause-kept : goal.returns-then-is_blank-clause-kept
returns-then-is_blank-clause-kept c = grind (arith, blank-dropped)

pub returns-clause-kept : goal.returns-clause-kept
returns-clause-kept c =
    let ts = c.args.tokens.now.tokens in
    let from = c.args.from in
    let k = c.args.end - 1 in
    elim c.else-from-end.branch [
      | else-from-end-via-then-from-end+else-is_blank w ↦
          let next : suc k ≡ c.args.end = omega (arith, w.if-from-end.true) in
          ap (λ n. drop from (take n ts)) (sym next)
          ∙ blank-none from ts k (token_model w.token.result) w.token.ensures
          (omega (arith, w.if-from-end.true)) (sym w.is_blank.ensures ∙ w.if-is_blank.false)
          ∙ ap (λ n. without_blank (drop from (take n ts))) next
      | else-from-end-via-else-from-end w ↦
          let none = drop-all from ts c.args.end (omega (arith, w.if-from-end.false)) in
          none ∙ ap without_blank (sym none)
    ]

pub returns-then-is_blank-clause-strings : goal.returns-then-is_blank-clause-strings
returns-then-is_blank-clause-strings c = grind (arith, blank-strings)
