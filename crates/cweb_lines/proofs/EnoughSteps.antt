-- The events of a merge don't depend on the number of steps.
use Rattle.std.proofs.Common.{◌≡◌, ℕ, zero, suc, List, [], ◌++◌, Option, Some, None, refl, sym, ◌∙◌, ap, unwrap_or, arith}
use Rattle.cweb_lines.specs.Include.{World}
use Rattle.cweb_lines.specs.Events.{Event}
use Rattle.cweb_lines.specs.Merge.{MergeStateModel, Next, step, onto, step_then_run, run_steps, Yields}
use Rattle.cweb_lines.specs.surface.MergeProgress.{enough_steps, merge}
use Rattle.cweb_lines.proofs.Halting.{comes}

pub onto_some : (events all : List Event) (later : Option (List Event)) → onto events later ≡ Some all →
    (rest : List Event) × (later ≡ Some rest) × (events ++ rest ≡ all)
onto_some events all None is = absurd (cc)
onto_some events all (Some rest) is = (rest, refl, cc)

pub run_steps_unique : (m n : ℕ) (world : World) (s : MergeStateModel) (a b : List Event)
    → run_steps m world s ≡ Some a →
    run_steps n world s ≡ Some b → a ≡ b
run_steps_unique zero n world s a b one other = cc
run_steps_unique (suc m) zero world s a b one other = cc
run_steps_unique (suc m) (suc n) world s a b one other = by (step world s) one other
    (λ s' a' b'. run_steps_unique m n world s' a' b')
  where
    by : (o : Option Next) → step_then_run o (λ s'. run_steps m world s') ≡ Some a
        → step_then_run o (λ s'. run_steps n world s') ≡ Some b
        → ((s' : MergeStateModel) (a' b' : List Event) → run_steps m world s' ≡ Some a' → run_steps n world s' ≡ Some b'
        → a' ≡ b') → a ≡ b
    by None one other later = cc
    by (Some next) one other later =
        let x = onto_some next.0 a (run_steps m world next.1) one in
        let y = onto_some next.0 b (run_steps n world next.1) other in
        sym x.2 ∙ ap (λ (es : List Event). next.0 ++ es) (later next.1 x.0 y.0 x.1 y.1) ∙ y.2

pub merge_yields : (world : World) (s : MergeStateModel) → Yields world s (merge world s)
unfolding merge
merge_yields world s =
    let all = comes (enough_steps world s) world s (omega arith) in
    (enough_steps world s, all.1 ∙ ap (λ (o : Option (List Event)). Some (unwrap_or o [])) (sym all.1))

pub merge-run_steps : (n : ℕ) (world : World) (s : MergeStateModel) (events : List Event)
    → run_steps n world s ≡ Some events →
    merge world s ≡ events
merge-run_steps n world s events is =
    let all = merge_yields world s in run_steps_unique all.0 n world s (merge world s) events all.1 is

pub merge_end : (world : World) (s : MergeStateModel) → step world s ≡ None → merge world s ≡ []
merge_end world s is = merge-run_steps 1 world s [] (ap (λ o. step_then_run o (λ s'. run_steps 0 world s')) is)

pub merge_next : (world : World) (s : MergeStateModel) (next : Next) → step world s ≡ Some next →
    merge world s ≡ next.0 ++ merge world next.1
merge_next world s next is =
    let later = merge_yields world next.1 in
    merge-run_steps (suc later.0) world s (next.0 ++ merge world next.1)
    (ap (λ o. step_then_run o (λ s'. run_steps later.0 world s')) is ∙ ap (onto next.0) later.1)
