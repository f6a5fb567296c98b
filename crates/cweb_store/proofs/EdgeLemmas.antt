-- Edges of strings, and what is stored of them.
use Rattle.cweb_store.proofs.Common.{◌≡◌, ◌==◌, ◌-◌, ℕ, zero, suc, Bool, true, false, List, [], ◌∷◌, ◌++◌, Some, ◌∙◌, refl, ap, sym, arith, length, take, slice_get, slice_index_or, list_any, Edge, AreStoredEdges, IsStoredEdge, first_is, is_high, is_numeric, is_operator, is_known_edge, last_is, punctuator_edge, punctuator_edge_by}

last_of_list : (p : ℕ → Bool) (b : ℕ) (bs : List ℕ) (x : ℕ)
    → slice_get (b ∷ bs) (length bs) ≡ Some x → last_is p (b ∷ bs) ≡ p x
last_of_list p b [] x h = cc
last_of_list p b (c ∷ bs) x h = last_of_list p c bs x h

-- what a test says of the last byte
pub last_is-at : (p : ℕ → Bool) (bs : List ℕ) (x : ℕ) → slice_get bs (length bs - 1) ≡ Some x → last_is p bs ≡ p x
last_is-at p [] x h = cc
last_is-at p (b ∷ bs) x h =
    let e : length bs ≡ suc (length bs) - 1 = omega arith in last_of_list p b bs x (ap (slice_get (b ∷ bs)) e ∙ h)

pub edge-last : (bs : List ℕ) (x : ℕ) → slice_get bs (length bs - 1) ≡ Some x
    → punctuator_edge_by (first_is is_numeric bs) (first_is is_operator bs) (x == 46) (is_operator x)
    ≡ punctuator_edge bs
edge-last bs x h = ap (λ b. punctuator_edge_by (first_is is_numeric bs) (first_is is_operator bs) b (is_operator x))
    (sym (last_is-at (λ x. x == 46) bs x h))
    ∙ ap (λ b. punctuator_edge_by (first_is is_numeric bs) (first_is is_operator bs) (last_is (λ x. x == 46) bs) b)
    (sym (last_is-at is_operator bs x h))

pub known-push : (ts : List (List ℕ)) (bs : List Edge) (t : List ℕ) (b : Edge) → AreStoredEdges ts bs → IsStoredEdge t b
    → AreStoredEdges (ts ++ t ∷ []) (bs ++ b ∷ [])
known-push [] [] t b h is_known = (is_known, tt)
known-push (u ∷ ts) (c ∷ bs) t b h is_known = (h.0, known-push ts bs t b h.1 is_known)
known-push [] (c ∷ bs) t b h is_known = absurd h
known-push (u ∷ ts) [] t b h is_known = absurd h

pub known-take : (n : ℕ) (ts : List (List ℕ)) (bs : List Edge) → AreStoredEdges ts bs
    → AreStoredEdges (take n ts) (take n bs)
known-take zero ts bs h = tt
known-take (suc n) [] [] h = tt
known-take (suc n) (u ∷ ts) (c ∷ bs) h = (h.0, known-take n ts bs h.1)
known-take (suc n) [] (c ∷ bs) h = absurd h
known-take (suc n) (u ∷ ts) [] h = absurd h

pub known-count : (ts : List (List ℕ)) (bs : List Edge) → AreStoredEdges ts bs → length bs ≡ length ts
known-count [] [] h = refl
known-count (u ∷ ts) (c ∷ bs) h = ap suc (known-count ts bs h.1)
known-count [] (c ∷ bs) h = absurd h
known-count (u ∷ ts) [] h = absurd h

pub known-at : (ts : List (List ℕ)) (bs : List Edge) (k : ℕ) (t : List ℕ) (d : Edge) → AreStoredEdges ts bs
    → slice_get ts k ≡ Some t → IsStoredEdge t (slice_index_or bs k d)
known-at [] bs k t d h there = cc
known-at (u ∷ ts) (c ∷ bs) zero t d h there = grind arith
known-at (u ∷ ts) (c ∷ bs) (suc k) t d h there = known-at ts bs k t d h.1 there
known-at (u ∷ ts) [] k t d h there = absurd h

-- A string with a known edge is ASCII.
pub known-ascii : (t : List ℕ) (b : Edge) (high : Bool) → list_any is_high t ≡ high → IsStoredEdge t b
    → is_known_edge b ≡ true
    → list_any is_high t ≡ false
known-ascii t b false is is_known some = is
known-ascii t b true is is_known some = grind arith
