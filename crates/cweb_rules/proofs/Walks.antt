-- The units of an item, one after another.
use Rattle.cweb_rules.proofs.Common.{◌≡◌, ◌≤◌, ◌<◌, ℕ, zero, suc, Bool, true, false, ◌==◌, ◌-◌, List, [], ◌∷◌, length, take, drop, ap, sym, ◌∙◌, arith, drop_min, Reach, reach, reach_in, End, Look, Goes, listed, longest, min, at_start}
use Rattle.cweb_rules.proofs.Ranges.{reach_in-drop}
use Rattle.cweb_rules.proofs.TokenSizes.{longest-size}

pub take_min : (n : ℕ) (t : List ℕ) → take n t ≡ take (min n (length t)) t
take_min zero t = let e : min zero (length t) ≡ zero = omega arith in sym (ap (λ k. take k t) e)
take_min (suc n) [] = let e : min (suc n) 0 ≡ 0 = omega arith in sym (ap (λ k. take k []) e)
take_min (suc n) (b ∷ t) =
    let e : min (suc n) (suc (length t)) ≡ suc (min n (length t)) = omega arith in
    ap (λ u. b ∷ u) (take_min n t) ∙ sym (ap (λ k. take k (b ∷ t)) e)

pub units_on : (look : List ℕ → Look) (e : End) (n : ℕ) (t : List ℕ) → 0 < length t → 0 < n → look t ≡ Goes n
    → (reach look e t).units ≡ take (min n (length t)) t ∷ (reach look e (drop (min n (length t)) t)).units
units_on look e n [] some moves h = absurd (omega arith)
units_on look e n (b ∷ t) some moves h =
    let same : n ≡ suc (n - 1) = omega arith in
    ap (λ v. (at_start look v (b ∷ t) e t).units) h
    ∙ ap (λ u. u ∷ (reach_in look e (n - 1) t).units) (take_min n (b ∷ t))
    ∙ ap (λ (r : Reach). take (min n (length (b ∷ t))) (b ∷ t) ∷ r.units) (reach_in-drop look e (n - 1) t
    ∙ ap (λ k. reach look e (drop k (b ∷ t))) (sym same) ∙ ap (reach look e) (sym (drop_min n (b ∷ t))))

-- The units if the code has already split off the first one.
pub units_from : (look : List ℕ → Look) (e : End) (n m : ℕ) (t unit after : List ℕ) → look t ≡ Goes n
    → 0 < n → 0 < length t → m ≡ min n (length t) → unit ≡ take m t → after ≡ drop m t
    → (reach look e t).units ≡ unit ∷ (reach look e after).units
units_from look e n m t unit after h moves some is prefix back = grind (arith, units_on)

pub nonempty : (t : List ℕ) (v : Bool) → v ≡ (length t == 0) → v ≡ false → 0 < length t
nonempty [] v is h = let wrong : false ≡ true = sym h ∙ is in cc
nonempty (b ∷ t) v is h = omega arith

pub punctuator_fits : (t : List ℕ) → 1 ≤ length t → longest listed t ≤ length t
punctuator_fits [] h = absurd (omega arith)
punctuator_fits (b ∷ t) h = longest-size listed b t
