-- The first element that passes a test.
use Rattle.cweb_out.proofs.Common.{◌≡◌, ◌<◌, ◌+◌, ℕ, zero, suc, Bool, true, false, cond, List, [], ◌∷◌, ◌++◌, sym, ◌∙◌, ap, arith, length, take, get_or, Option, Some, None, find, take_more}
use Rattle.std.specs.Option.{option_or}
use Rattle.std.proofs.lemmas.List.Folds.{find-append}

or-none : {X : Type 0} (o later : Option X) → o ≡ None → later ≡ None → option_or o later ≡ None
or-none None later a b = b
or-none (Some y) later a b = cc

-- One more element fails.
pub find-more : {X : Type 0} (p : X → Bool) (xs : List X) (i : ℕ) (x d : X) → i < length xs
    → x ≡ get_or xs i d → find p (take i xs) ≡ None → p x ≡ false → find p (take (i + 1) xs) ≡ None
find-more p xs i x d l e h f =
    ap (find p) (take_more xs i d l ∙ ap (λ y. take i xs ++ y ∷ []) (sym e)) ∙ find-append p (take i xs) (x ∷ [])
    ∙ or-none (find p (take i xs)) (find p (x ∷ [])) h (ap (λ b. cond b (Some x) None) f)

-- The next element passes.
pub find-at : {X : Type 0} (p : X → Bool) (xs : List X) (i : ℕ) (x d : X) → i < length xs
    → x ≡ get_or xs i d → find p (take i xs) ≡ None → p x ≡ true → find p xs ≡ Some x
find-at p [] i x d l e h t = absurd (omega (arith, l))
find-at p (y ∷ ys) zero x d l e h t = grind arith
find-at p (y ∷ ys) (suc i) x d l e h t =
    (elim (p y) as (λ b. cond b (Some y) (find p (take i ys)) ≡ None → cond b (Some y) (find p ys) ≡ Some x) [
      | true ↦ λ g. cc
      | false ↦ λ g. find-at p ys i x d (omega (arith, l)) e g t
    ]) h
