-- Lists, by index, and tests of their items.
use Rattle.cweb_store.proofs.Common.{◌≡◌, ℕ, zero, suc, ◌+◌, Bool, true, false, ◌||◌, List, [], ◌∷◌, ◌++◌, ◌⊎◌, inl, inr, Some, refl, sym, ◌∙◌, ap, arith, drop, set, length, slice_get, or_comm}

pub or-assoc : (a b c : Bool) → (a || (b || c)) ≡ ((a || b) || c)
or-assoc true b c = refl
or-assoc false b c = refl

pub or-last : (a b c : Bool) → ((a || b) || c) ≡ ((a || c) || b)
or-last a b c = sym (or-assoc a b c) ∙ ap (λ x. a || x) (or_comm b c) ∙ or-assoc a c b

pub get-drop : {X : Type 0} (xs : List X) (n k : ℕ) → slice_get (drop n xs) k ≡ slice_get xs (n + k)
get-drop xs zero k = ap (slice_get xs) (let e : k ≡ zero + k = omega arith in e)
get-drop [] (suc n) k = cc
get-drop (x ∷ xs) (suc n) k = grind (arith, get-drop xs n k, suc (n + k), suc n)

pub get-set : {X : Type 0} (xs : List X) (i k : ℕ) (new s : X)
    → slice_get (set xs i new) k ≡ Some s → ((k ≡ i) × (s ≡ new)) ⊎ (slice_get xs k ≡ Some s)
get-set [] zero k new s h = cc
get-set [] (suc i) k new s h = cc
get-set (x ∷ xs) zero zero new s h = let same : s ≡ new = cc in inl (refl, same)
get-set (x ∷ xs) zero (suc k) new s h = inr h
get-set (x ∷ xs) (suc i) zero new s h = inr h
get-set (x ∷ xs) (suc i) (suc k) new s h = grind (arith, get-set xs i k new s h)

-- an item of a list with one more
pub get-push : {X : Type 0} (xs : List X) (x : X) (k : ℕ) (y : X) → slice_get (xs ++ x ∷ []) k ≡ Some y
    → (slice_get xs k ≡ Some y) ⊎ ((k ≡ length xs) × (x ≡ y))
get-push [] x zero y h = let same : x ≡ y = cc in inr (refl, same)
get-push [] x (suc k) y h = cc
get-push (z ∷ xs) x zero y h = inl h
get-push (z ∷ xs) x (suc k) y h = grind (arith, get-push xs x k y h, get-push xs x k y h)
