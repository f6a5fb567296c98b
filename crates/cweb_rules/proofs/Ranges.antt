-- The extent of an item, unit by unit.
use Rattle.cweb_rules.proofs.Common.{◌≡◌, ◌<◌, ℕ, zero, suc, ◌+◌, ◌-◌, List, [], ◌∷◌, length, take, drop, refl, ap, sym, ◌∙◌, arith, length-append, min, length-take, drop_min, Reach, reach, reach_in, with_unit, body, reached, End, is_closed, Open, Cut, Reached, Look, Goes, Ends, at_start}

abbrev pub later_by : ℕ → Reached → Reached
later_by n r = record { size = n + r.size; close = r.close; how = r.how }

pub later_by-add : (m n : ℕ) (r : Reached) → later_by m (later_by n r) ≡ later_by (m + n) r
later_by-add m n r = grind arith

pub later_by-zero : (r : Reached) → r ≡ later_by 0 r
later_by-zero r = grind arith

pub reach_in-drop : (look : List ℕ → Look) (e : End) (k : ℕ) (t : List ℕ)
    → reach_in look e k t ≡ reach look e (drop k t)
reach_in-drop look e zero t = refl
reach_in-drop look e (suc k) [] = refl
reach_in-drop look e (suc k) (b ∷ t) = reach_in-drop look e k t

unit-size : (u : List ℕ) (r : Reach) → reached (with_unit u r) ≡ later_by (length u) (reached r)
unit-size u r = ap (λ n. record { size = n; close = r.close; how = r.how }) (length-append u (body r))

pub reach_goes : (look : List ℕ → Look) (e : End) (n : ℕ) (t : List ℕ) → 0 < length t → 0 < n → look t ≡ Goes n
    → reached (reach look e t) ≡ later_by (min n (length t)) (reached (reach look e (drop (min n (length t)) t)))
reach_goes look e n [] some moves h = absurd (omega arith)
reach_goes look e n (b ∷ t) some moves h =
    let same : n ≡ suc (n - 1) = omega arith in
    ap (λ v. reached (at_start look v (b ∷ t) e t)) h
    ∙ unit-size (take n (b ∷ t)) (reach_in look e (n - 1) t)
    ∙ ap (λ k. later_by k (reached (reach_in look e (n - 1) t))) (length-take n (b ∷ t))
    ∙ ap (λ (r : Reach). later_by (min n (length (b ∷ t))) (reached r))
    (reach_in-drop look e (n - 1) t ∙ ap (λ k. reach look e (drop k (b ∷ t))) (sym same))
    ∙ ap (λ u. later_by (min n (length (b ∷ t))) (reached (reach look e u))) (sym (drop_min n (b ∷ t)))

closed_at : (look : List ℕ → Look) (b : ℕ) (t : List ℕ) (v : Look)
    → ((k : ℕ) → is_closed (reach_in look Cut k t).how ≡ is_closed (reach_in look Open k t).how)
    → is_closed (at_start look v (b ∷ t) Cut t).how ≡ is_closed (at_start look v (b ∷ t) Open t).how
closed_at look b t (Goes n) h = h (n - 1)
closed_at look b t (Ends n how) h = refl

closed_in : (look : List ℕ → Look) (k : ℕ) (t : List ℕ)
    → is_closed (reach_in look Cut k t).how ≡ is_closed (reach_in look Open k t).how
closed_in look zero [] = refl
closed_in look (suc k) [] = refl
closed_in look (suc k) (b ∷ t) = closed_in look k t
closed_in look zero (b ∷ t) = closed_at look b t (look (b ∷ t)) (λ k. closed_in look k t)

-- Whether an item is closed doesn't depend on how it ends without a closer.
pub closed_same : (look : List ℕ → Look) (t : List ℕ)
    → is_closed (reach look Cut t).how ≡ is_closed (reach look Open t).how
closed_same look t = closed_in look 0 t
