-- More depth changes nothing: a rank is below the number of names.
use Rattle.cweb_out.proofs.Common.{◌≡◌, ◌≤◌, ◌<◌, ◌+◌, ℕ, zero, suc, Bool, true, false, cond, List, [], ◌∷◌, ◌++◌, refl, sym, ◌∙◌, ap, arith, length, inl, inr, Option, Some, None, IfSome, option_to_list, list_all, list_any, list_any-append, NameId, id, is_id, Token, Name, Stored, names, joined, uses, use_of, resolved_use, ends_below, has_rank, AreNew, and_parts, or_left, or_right, ◌⊎◌, eqb_tells}
use Rattle.std.proofs.lemmas.Bool.{and_from, cases_lt, true_from_ne_false}
use Rattle.std.proofs.lemmas.List.Folds.{list_all-append}
use Rattle.cweb_store.proofs.BoundLemmas.{standing-within}

-- How many numbers below n pass a test.
abbrev pub counted : (ℕ → Bool) → ℕ → ℕ
counted f zero = 0
counted f (suc n) = cond (f n) 1 0 + counted f n

counted-le : (f : ℕ → Bool) (n : ℕ) → counted f n ≤ n
counted-le f zero = omega arith
counted-le f (suc n) = grind (arith, f n, counted-le f n)

bit-le : (a b : Bool) → (a ≡ true → b ≡ true) → cond a 1 0 ≤ cond b 1 0
bit-le true b w = rw (w refl) (omega arith)
bit-le false b w = omega arith

counted-grows : (f g : ℕ → Bool) (n : ℕ) → ((i : ℕ) → i < n → f i ≡ true → g i ≡ true) → counted f n ≤ counted g n
counted-grows f g zero w = omega arith
counted-grows f g (suc n) w = grind (arith, bit-le, counted-grows f g n (λ i l. w i (omega (arith, l))))

-- A weaker test passes at least one number more.
counted-more : (f g : ℕ → Bool) (n j : ℕ) → ((i : ℕ) → i < n → f i ≡ true → g i ≡ true)
    → j < n → f j ≡ false → g j ≡ true → counted f n < counted g n
counted-more f g zero j w l a b = absurd (omega (arith, l))
counted-more f g (suc n) j w l a b = elim (eqb_tells j n) [
  | inl e ↦
      let new : cond (f n) 1 0 < cond (g n) 1 0 = rw (ap f (sym e.1) ∙ a, ap g (sym e.1) ∙ b) (omega arith) in
      omega (arith, new, counted-grows f g n (λ i k. w i (omega (arith, k))))
  | inr e ↦ omega (
    arith,
    bit-le (f n) (g n) (w n (omega arith)),
    counted-more f g n j (λ i k. w i (omega (arith, k))) (omega (arith, l, e.1)) a b,
  )
]

option-weaker : (p q : NameId → Bool) (n : ℕ) (o : Option NameId)
    → IfSome o (λ (m : NameId). m.0 < n) → ((m : NameId) → m.0 < n → p m ≡ true → q m ≡ true)
    → list_all p (option_to_list o) ≡ true → list_all q (option_to_list o) ≡ true
option-weaker p q n None b w h = refl
option-weaker p q n (Some m) b w h = and_from (q m) true (w m b (and_parts (p m) true h).0) refl

use-weaker : (w : Stored) (p q : NameId → Bool) (t : Token) → ((m : NameId) → m.0 < names w → p m ≡ true → q m ≡ true)
    → list_all p (use_of w t) ≡ true → list_all q (use_of w t) ≡ true
use-weaker w p q (Name r) f h = option-weaker p q (names w) (resolved_use w r) (standing-within w.occurrences r.0) f h
use-weaker w p q t f h = refl

pub all-append : {X : Type 0} (p : X → Bool) (xs ys : List X)
    → list_all p xs ≡ true → list_all p ys ≡ true → list_all p (xs ++ ys) ≡ true
all-append p xs ys a b = list_all-append p xs ys ∙ and_from (list_all p xs) (list_all p ys) a b

pub all-parts : {X : Type 0} (p : X → Bool) (xs ys : List X)
    → list_all p (xs ++ ys) ≡ true → (list_all p xs ≡ true) × (list_all p ys ≡ true)
all-parts p xs ys h = and_parts (list_all p xs) (list_all p ys) (sym (list_all-append p xs ys) ∙ h)

-- A property of names carries over to the names that a list uses.
pub uses-weaker : (w : Stored) (p q : NameId → Bool) (ts : List Token)
    → ((m : NameId) → m.0 < names w → p m ≡ true → q m ≡ true)
    → list_all p (uses w ts) ≡ true → list_all q (uses w ts) ≡ true
uses-weaker w p q [] f h = refl
uses-weaker w p q (t ∷ ts) f h = all-append q (use_of w t) (uses w ts) (use-weaker w p q t f
    (all-parts p (use_of w t) (uses w ts) h).0) (uses-weaker w p q ts f (all-parts p (use_of w t) (uses w ts) h).1)

-- A rank below k + 1 is one below k.
abbrev IsStill : Stored → ℕ → Type 0
IsStill w k = (m : NameId) → m.0 < names w → ends_below w (suc k) m ≡ true → ends_below w k m ≡ true

pub rank-grows : (w : Stored) (k : ℕ) (n : NameId) → ends_below w k n ≡ true → ends_below w (suc k) n ≡ true
rank-grows w zero n h = cc
rank-grows w (suc k) n h =
    uses-weaker w (ends_below w k) (ends_below w (suc k)) (joined w n) (λ m l. rank-grows w k m) h

still-next : (w : Stored) (k : ℕ) → IsStill w k → IsStill w (suc k)
still-next w k s m l h = uses-weaker w (ends_below w (suc k)) (ends_below w k) (joined w m) s h

-- How many names have a rank below k.
abbrev ranked_below : Stored → ℕ → ℕ
ranked_below w k = counted (λ i. ends_below w k (id i)) (names w)

-- If no further name has a rank at one depth, none has at any greater depth.
still-at : (w : Stored) (k : ℕ) → ranked_below w (suc k) ≤ ranked_below w k → IsStill w k
still-at w k le m l b = true_from_ne_false (ends_below w k m) (λ a.
    let more = counted-more (λ i. ends_below w k (id i))
    (λ i. ends_below w (suc k) (id i)) (names w) m.0 (λ i j. rank-grows w k (id i)) l a b in
    omega (arith, le, more))

-- Each depth ranks a further name, until none is left.
reach : (w : Stored) (k : ℕ) → IsStill w k ⊎ (k < ranked_below w (suc k))
reach w zero = elim (cases_lt (ranked_below w 0) (ranked_below w 1))
    [ inl h ↦ inr (omega (arith, h)) | inr h ↦ inl (still-at w zero h) ]
reach w (suc k) = elim (reach w k) [
  | inl s ↦ inl (still-next w k s)
  | inr h ↦ elim (cases_lt (ranked_below w (suc k)) (ranked_below w (suc (suc k))))
      [ inl e ↦ inr (omega (arith, h, e)) | inr e ↦ inl (still-at w (suc k) e) ]
]

still : (w : Stored) → IsStill w (names w)
still w = grind (arith, reach w (names w), reach, counted-le)

still-more : (w : Stored) (k j : ℕ) → IsStill w k → (m : NameId)
    → m.0 < names w → ends_below w (j + k) m ≡ true → ends_below w k m ≡ true
still-more w k zero s m l h = let e : zero + k ≡ k = omega arith in ap (λ i. ends_below w i m) (sym e) ∙ h
still-more w k (suc j) s m l h =
    let e : suc j + k ≡ suc (j + k) = omega arith in
    still-more w k j s m l (by-depth j (ap (λ i. ends_below w i m) (sym e) ∙ h))
  where
    stays : (j : ℕ) → IsStill w (j + k)
    stays zero = let e : zero + k ≡ k = omega arith in rw e s
    stays (suc j) = let e : suc j + k ≡ suc (j + k) = omega arith in rw e (still-next w (j + k) (stays j))

    by-depth : (j : ℕ) → ends_below w (suc (j + k)) m ≡ true → ends_below w (j + k) m ≡ true
    by-depth j g = stays j m l g

pub grows-more : (w : Stored) (j k : ℕ) (n : NameId) → ends_below w k n ≡ true → ends_below w (j + k) n ≡ true
grows-more w zero k n h = let e : zero + k ≡ k = omega arith in ap (λ i. ends_below w i n) e ∙ h
grows-more w (suc j) k n h =
    let e : suc j + k ≡ suc (j + k) = omega arith in
    ap (λ i. ends_below w i n) e ∙ rank-grows w (j + k) n (grows-more w j k n h)

-- A bounded rank is below the number of names.
pub rank_below_names : (w : Stored) (k : ℕ) (n : NameId) → n.0 < names w → ends_below w k n ≡ true → has_rank w n ≡ true
rank_below_names w k n l h =
    let e : names w + k ≡ k + names w = omega arith in
    still-more w (names w) k (still w) n l (ap (λ i. ends_below w i n) (sym e) ∙ grows-more w (names w) k n h)

-- A name whose uses all have ranks has one.
pub rank_by_uses : (w : Stored) (n : NameId) → n.0 < names w
    → list_all (has_rank w) (uses w (joined w n)) ≡ true → has_rank w n ≡ true
rank_by_uses w n l h = rank_below_names w (suc (names w)) n l h

-- The indices of the names of a list.
abbrev on : List NameId → ℕ → Bool
on ns i = list_any (is_id (id i)) ns

pub id-same : (n : NameId) → is_id n n ≡ true
id-same n = elim (eqb_tells n.0 n.0) [ inl e ↦ e.0 | inr e ↦ absurd (e.1 refl) ]

pub on-last : (seen : List NameId) (n : NameId) → list_any (is_id n) (seen ++ n ∷ []) ≡ true
on-last seen n = grind (arith, list_any-append, seen, or_right, or_left, id-same)

pub on-prefix : (seen more : List NameId) (n : NameId)
    → list_any (is_id n) seen ≡ true → list_any (is_id n) (seen ++ more) ≡ true
on-prefix seen more n h = grind (arith, list_any-append, seen, more, or_left)

few-from : (count : ℕ) (seen ns : List NameId) → AreNew seen ns
    → ((n : NameId) → list_any (is_id n) ns ≡ true → n.0 < count) → counted (on seen) count + length ns ≤ count
few-from count seen [] a b = let h = counted-le (on seen) count in omega (arith, h)
few-from count seen (n ∷ ns) a b =
    let less = counted-more (on seen) (on (seen ++ n ∷ [])) count n.0 (λ i l. on-prefix seen (n ∷ []) (id i))
    (b n (or_left (is_id n n) (list_any (is_id n) ns) (id-same n))) a.0 (on-last seen n) in
    let rest = few-from count (seen ++ n ∷ []) ns a.1 (λ m h. b m (or_right (is_id m n) (list_any (is_id m) ns) h)) in
    omega (arith, less, rest)

-- Distinct names are at most as many as there are names.
pub few : (count : ℕ) (ns : List NameId) → AreNew [] ns
    → ((n : NameId) → list_any (is_id n) ns ≡ true → n.0 < count) → length ns ≤ count
few count ns a b = let h = few-from count [] ns a b in omega (arith, h)
