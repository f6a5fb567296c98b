-- Lists of tokens without trailing ones.
use Rattle.cweb_store.proofs.Common.{◌≡◌, ℕ, zero, suc, ◌+◌, ◌≤◌, Bool, true, false, List, [], ◌∷◌, ◌++◌, Some, length, take, drop, refl, ◌∙◌, ap, append-nil, arith, slice_get, if◌then◌else◌, Token, before_last, without_last, without_last_after, without_blank, is_blank}
use Rattle.std.proofs.lemmas.List.{length-take, take_all}
use Rattle.std.proofs.Math.ListN.{drop_of_length-le}

before_last-some : (test : Token → Bool) (x : Token) (xs : List Token) (t : Token)
    → before_last test x (xs ++ t ∷ []) ≡ x ∷ xs ++ t ∷ []
before_last-some test x [] t = refl
before_last-some test x (y ∷ ys) t = refl

pub without_last-push : (test : Token → Bool) (xs : List Token) (t : Token)
    → without_last test (xs ++ t ∷ []) ≡ (if test t then without_last test xs else xs ++ t ∷ [])
without_last-push test [] t = refl
without_last-push test (x ∷ xs) t = grind (arith, without_last-push test xs t, test t, before_last-some test x xs t)

pub take-next : (ts : List Token) (k : ℕ) (t : Token) → slice_get ts k ≡ Some t → take (suc k) ts ≡ take k ts ++ t ∷ []
take-next [] k t h = cc
take-next (x ∷ ts) zero t h = let same : x ≡ t = cc in ap (λ y. y ∷ []) same
take-next (x ∷ ts) (suc k) t h = ap (λ us. x ∷ us) (take-next ts k t h)

-- One more token at the end.
pub trim-next : (n : ℕ) (test : Token → Bool) (ts : List Token) (k : ℕ) (t : Token) → slice_get ts k ≡ Some t → n ≤ k →
    without_last_after n test (take (suc k) ts)
    ≡ (if test t then without_last_after n test (take k ts) else take (suc k) ts)
trim-next n test [] k t h le = cc
trim-next zero test (x ∷ ts) k t h le = cc (take-next (x ∷ ts) k t h, without_last-push test (take k (x ∷ ts)) t)
trim-next (suc n) test (x ∷ ts) zero t h le = absurd (let none : ⊥ = omega arith in none)
trim-next (suc n) test (x ∷ ts) (suc k) t h le = grind (arith, trim-next n test ts k t h (omega arith), test t, suc k)

-- If all tokens are protected, none is dropped.
pub trim-none : (n : ℕ) (test : Token → Bool) (ts : List Token) → length ts ≤ n → without_last_after n test ts ≡ ts
trim-none n test ts h = cc (take_all n ts h, drop_of_length-le ts h, append-nil ts)

-- The tokens after the first ones.
pub trim-drop : (first n : ℕ) (test : Token → Bool) (ts : List Token)
    → drop first (without_last_after (first + n) test ts) ≡ without_last_after n test (drop first ts)
trim-drop zero n test ts = ap (λ k. without_last_after k test ts) (let same : zero + n ≡ n = omega arith in same)
trim-drop (suc first) n test [] = grind (arith, trim-none)
trim-drop (suc first) n test (t ∷ ts) =
    let next : suc first + n ≡ suc (first + n) = omega arith in
    ap (λ k. drop (suc first) (without_last_after k test (t ∷ ts))) next ∙ trim-drop first n test ts

pub drop-next : (from : ℕ) (ts : List Token) (k : ℕ) (t : Token) → slice_get ts k ≡ Some t
    → from ≤ k → drop from (take (suc k) ts) ≡ drop from (take k ts) ++ t ∷ []
drop-next from [] k t h le = cc
drop-next zero (x ∷ ts) k t h le = take-next (x ∷ ts) k t h
drop-next (suc from) (x ∷ ts) zero t h le = absurd (let none : ⊥ = omega arith in none)
drop-next (suc from) (x ∷ ts) (suc k) t h le = drop-next from ts k t h (omega arith)

pub drop-all : (from : ℕ) (ts : List Token) (n : ℕ) → n ≤ from → drop from (take n ts) ≡ []
drop-all from ts n le = drop_of_length-le (take n ts) (omega (arith, length-take n ts, le))

pub blank-push : (xs : List Token) (t : Token)
    → without_blank (xs ++ t ∷ []) ≡ (if is_blank t then xs else xs ++ t ∷ [])
blank-push [] t = refl
blank-push (x ∷ []) t = grind arith
blank-push (x ∷ y ∷ ys) t = grind (arith, is_blank t, blank-push (y ∷ ys) t)

-- Whether the last token is a Blank.
pub blank-dropped : (from : ℕ) (ts : List Token) (k : ℕ) (t : Token) → slice_get ts k ≡ Some t
    → from ≤ k → is_blank t ≡ true → drop from (take k ts) ≡ without_blank (drop from (take (suc k) ts))
blank-dropped from ts k t h le blank = cc (drop-next from ts k t h le, blank-push (drop from (take k ts)) t)

pub blank-none : (from : ℕ) (ts : List Token) (k : ℕ) (t : Token) → slice_get ts k ≡ Some t → from ≤ k
    → is_blank t ≡ false → drop from (take (suc k) ts) ≡ without_blank (drop from (take (suc k) ts))
blank-none from ts k t h le other = cc (drop-next from ts k t h le, blank-push (drop from (take k ts)) t)
