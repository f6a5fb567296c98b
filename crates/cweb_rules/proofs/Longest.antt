-- The longest listed punctuator has three bytes, or two, or there is none.
use Rattle.cweb_rules.proofs.Common.{◌≡◌, ℕ, ◌≤◌, Bool, true, false, List, [], ◌∷◌, refl, ◌∙◌, ap, arith, nat_tests, bytes_eq, list_any, if◌then◌else◌, listed, longest, begins_triple, begins_pair, ◌&&◌, ◌==◌, begins, second_is, and-false, and_parts}
use Rattle.cweb_rules.proofs.Seams.{differs}

pub longest_pos : (ps : List (List ℕ)) (t : List ℕ) → 1 ≤ longest ps t
longest_pos [] t = omega arith
longest_pos (p ∷ ps) t = omega (arith, longest_pos ps t)

-- Each entry has two bytes or three.
abbrev pub are_short : List (List ℕ) → Bool
are_short [] = true
are_short ((x ∷ y ∷ []) ∷ ps) = are_short ps
are_short ((x ∷ y ∷ z ∷ []) ∷ ps) = are_short ps
are_short (p ∷ ps) = false

abbrev has : List (List ℕ) → List ℕ → Bool
has ps sign = list_any (bytes_eq sign) ps

of-three : (ps : List (List ℕ)) (a b c : ℕ) (t : List ℕ) → are_short ps ≡ true
    → longest ps (a ∷ b ∷ c ∷ t)
    ≡ (if has ps (a ∷ b ∷ c ∷ []) then 3 else (if has ps (a ∷ b ∷ []) then 2 else 1))
of-three [] a b c t h = refl
of-three ([] ∷ ps) a b c t h = absurd (cc)
of-three ((x ∷ []) ∷ ps) a b c t h = absurd (cc)
of-three ((x ∷ y ∷ []) ∷ ps) a b c t h = grind (arith, nat_tests, of-three ps a b c t h)
of-three ((x ∷ y ∷ z ∷ []) ∷ ps) a b c t h = grind (arith, nat_tests, of-three ps a b c t h)
of-three ((x ∷ y ∷ z ∷ w ∷ p) ∷ ps) a b c t h = absurd (cc)

of-two : (ps : List (List ℕ)) (a b : ℕ) → are_short ps ≡ true
    → longest ps (a ∷ b ∷ []) ≡ (if has ps (a ∷ b ∷ []) then 2 else 1)
of-two [] a b h = refl
of-two ([] ∷ ps) a b h = absurd (cc)
of-two ((x ∷ []) ∷ ps) a b h = absurd (cc)
of-two ((x ∷ y ∷ []) ∷ ps) a b h = grind (arith, nat_tests, of-two ps a b h)
of-two ((x ∷ y ∷ z ∷ []) ∷ ps) a b h = grind (arith, nat_tests, of-two ps a b h)
of-two ((x ∷ y ∷ z ∷ w ∷ p) ∷ ps) a b h = absurd (cc)

of-one : (ps : List (List ℕ)) (a : ℕ) → are_short ps ≡ true → longest ps (a ∷ []) ≡ 1
of-one [] a h = refl
of-one ([] ∷ ps) a h = absurd (cc)
of-one ((x ∷ []) ∷ ps) a h = absurd (cc)
of-one ((x ∷ y ∷ []) ∷ ps) a h = grind (arith, nat_tests, of-one ps a h)
of-one ((x ∷ y ∷ z ∷ []) ∷ ps) a h = grind (arith, nat_tests, of-one ps a h)
of-one ((x ∷ y ∷ z ∷ w ∷ p) ∷ ps) a h = absurd (cc)

listed-is : (t : List ℕ) → longest listed t ≡ (if begins_triple t then 3 else (if begins_pair t then 2 else 1))
listed-is [] = refl
listed-is (a ∷ []) = of-one listed a refl
listed-is (a ∷ b ∷ []) = of-two listed a b refl
listed-is (a ∷ b ∷ c ∷ t) = of-three listed a b c t refl

pub triple-len : (t : List ℕ) → begins_triple t ≡ true → longest listed t ≡ 3
triple-len t h = listed-is t ∙ ap (λ b. if b then 3 else (if begins_pair t then 2 else 1)) h

pub other-len : (t : List ℕ) (pair : Bool) → begins_triple t ≡ false → pair ≡ begins_pair t
    → longest listed t ≡ (if pair then 2 else 1)
other-len t pair h g = grind (arith, listed-is)

-- A source without a second byte of a listed punctuator begins with none of them.
abbrev pub all_second : (ℕ → Bool) → List (List ℕ) → Bool
all_second test [] = true
all_second test (p ∷ ps) = second_is test p && all_second test ps

begins-none : (test : ℕ → Bool) (p t : List ℕ) → second_is test p ≡ true → second_is test t ≡ false → begins p t ≡ false
begins-none test [] t in_p out_t = absurd (cc)
begins-none test (a ∷ []) t in_p out_t = absurd (cc)
begins-none test (a ∷ b ∷ p) [] in_p out_t = refl
begins-none test (a ∷ b ∷ p) (x ∷ []) in_p out_t = and-false (a == x)
begins-none test (a ∷ b ∷ p) (x ∷ y ∷ t) in_p out_t = cc (differs test b y in_p out_t, and-false (a == x))

pub longest-none : (test : ℕ → Bool) (ps : List (List ℕ)) (t : List ℕ)
    → all_second test ps ≡ true → second_is test t ≡ false → longest ps t ≡ 1
longest-none test [] t all_in out_t = refl
longest-none test (p ∷ ps) t all_in out_t =
    let parts = and_parts (second_is test p) (all_second test ps) all_in in
    rw (begins-none test p t parts.0 out_t) (rw (longest-none test ps t parts.1 out_t) refl)
