-- A delimited item is its part before a seam, joined with its part after it.
use Rattle.cweb_rules.proofs.Common.{◌≡◌, ◌≤◌, ◌<◌, ℕ, zero, suc, ◌-◌, false, List, [], ◌∷◌, ◌++◌, length, refl, ap, sym, ◌∙◌, arith, take-append-le, append-nil, Look, Goes, Ends, Reach, reach, reach_in, End, Open, is_unclosed, at_start}

-- The next unit before the seam doesn't depend on the bytes after it.
abbrev pub IsLocal : (List ℕ → Look) → List ℕ → Type 0
IsLocal look more = (b : ℕ) (t : List ℕ) → look (b ∷ t ++ more) ≡ look (b ∷ t)

abbrev pub IsEnd : End → Type 0
IsEnd Open = ⊥
IsEnd _ = Unit {0}

-- No unit extends over the seam. The first `inner` bytes belong to the previous unit.
abbrev pub IsWhole : (List ℕ → Look) → ℕ → List ℕ → Type 0
IsWhole look inner [] = inner ≡ 0
IsWhole look (suc inner) (b ∷ t) = IsWhole look inner t
IsWhole look zero (b ∷ t) = elim (look (b ∷ t)) [ Goes n ↦ (0 < n) × IsWhole look (n - 1) t | Ends n how ↦ IsEnd how ]

-- The part before the seam, and the part after it if the item is still open.
abbrev pub join : Reach → Reach → Reach
join r m = elim r.how [ Open ↦ record { units = r.units ++ m.units; close = m.close; how = m.how } | _ ↦ r ]

pub ended : (n : ℕ) (how : End) (m : Reach) → IsEnd how
    → record { units = []; close = n; how = how } ≡ join (record { units = []; close = n; how = how }) m
ended n Open m h = absurd h
ended n _ m h = refl

whole_fits : (look : List ℕ → Look) (k : ℕ) (t : List ℕ) → IsWhole look k t → k ≤ length t
whole_fits look k [] h = omega (arith, h)
whole_fits look (suc k) (b ∷ t) h = omega (arith, whole_fits look k t h)
whole_fits look zero (b ∷ t) h = omega arith

abbrev pub WholeAt : (List ℕ → Look) → Look → List ℕ → Type 0
WholeAt look v t = elim v [ Goes n ↦ (0 < n) × IsWhole look (n - 1) t | Ends n how ↦ IsEnd how ]

one_unit : (look : List ℕ → Look) (e : End) (b : ℕ) (t more : List ℕ) (w : Look) → WholeAt look w t → ((k : ℕ)
    → IsWhole look k t → reach_in look e k (t ++ more) ≡ join (reach_in look Open k t) (reach_in look e 0 more))
    → at_start look w (b ∷ t ++ more) e (t ++ more) ≡ join (at_start look w (b ∷ t) Open t) (reach_in look e 0 more)
one_unit look e b t more (Ends n how) h ih = ended n how (reach_in look e 0 more) h
one_unit look e b t more (Goes n) h ih =
    grind (arith, take-append-le n (b ∷ t) more (omega (arith, whole_fits look (n - 1) t h.1)))

seam_in : (look : List ℕ → Look) (e : End) (more : List ℕ) → IsLocal look more → (k : ℕ) (t : List ℕ)
    → IsWhole look k t → reach_in look e k (t ++ more) ≡ join (reach_in look Open k t) (reach_in look e 0 more)
seam_in look e more local k [] h = ap (λ n. reach_in look e n more) h
seam_in look e more local (suc k) (b ∷ t) h = seam_in look e more local k t h
seam_in look e more local zero (b ∷ t) h = ap (λ v. at_start look v (b ∷ t ++ more) e (t ++ more)) (local b t)
    ∙ one_unit look e b t more (look (b ∷ t)) h (λ k f. seam_in look e more local k t f)

pub reach-append : (look : List ℕ → Look) (e : End) (t more : List ℕ) → IsLocal look more
    → IsWhole look 0 t → reach look e (t ++ more) ≡ join (reach look Open t) (reach look e more)
reach-append look e t more local h = seam_in look e more local 0 t h

join-ended : (us : List (List ℕ)) (n : ℕ) (how : End) (m : Reach) → is_unclosed how ≡ false
    → join (record { units = us; close = n; how = how }) m ≡ record { units = us; close = n; how = how }
join-ended us n Open m h = cc
join-ended us n _ m h = refl

pub reach-ended : (look : List ℕ → Look) (e : End) (t more : List ℕ) → IsLocal look more → IsWhole look 0 t
    → is_unclosed (reach look Open t).how ≡ false → reach look e (t ++ more) ≡ reach look Open t
reach-ended look e t more local h ended = grind (arith, reach-append look e t more local h, join-ended)

pub reach-line : (look : List ℕ → Look) (e : End) (t more : List ℕ) → IsLocal look more
    → IsLocal look [] → IsWhole look 0 t → reach look e more ≡ record { units = []; close = 0; how = e }
    → reach look e (t ++ more) ≡ reach look e t
reach-line look e t more local local0 h stop =
    reach-append look e t more local h ∙ ap (join (reach look Open t)) stop
    ∙ sym (ap (reach look e) (sym (append-nil t)) ∙ reach-append look e t [] local0 h)
