use Rattle.cweb_store.proofs.Common.{◌≡◌, ℕ, ◌+◌, take, drop, sym, ◌∙◌, ap, if◌then◌else◌, Part, protected_count, is_layout, without_last_after}
use Rattle.cweb_store.proofs.LayoutLemmas.{trim-drop}
use Rattle.cweb_store.proofs.tokens.layout.end_before_layout.Goals as goal
use Rattle.cweb_store.proofs.tokens.layout.end_before_layout.Goals.{then-is_macro, else-is_macro}

pub returns-clause-part : goal.returns-clause-part
returns-clause-part c =
    let ts = c.args.tokens.now.tokens in
    let kind = c.args.current.kind in
    let first = c.args.current.first in
    let kept : c.if-is_macro.kept ≡ protected_count kind = elim c.if-is_macro.branch [
      | then-is_macro w ↦
          w.kept-is ∙ ap (λ b. let n : ℕ = if b then 2 else 0 in n) (sym w.if-is_macro.true ∙ c.is_macro.ensures)
      | else-is_macro w ↦
          w.kept-is ∙ ap (λ b. let n : ℕ = if b then 2 else 0 in n) (sym w.if-is_macro.false ∙ c.is_macro.ensures)
    ] in
    let tokens : drop first (take c.end_before.result ts)
    ≡ without_last_after (protected_count kind) is_layout (drop first ts) =
    ap (drop first) (c.end_before.ensures.kept ∙ ap (λ n. without_last_after (first + n) is_layout ts) kept)
    ∙ trim-drop first (protected_count kind) is_layout ts in
    ap (λ us. let p : Part = record { kind = kind; tokens = us } in p) tokens
