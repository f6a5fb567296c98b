-- Indices of passing tokens: after an append, of a prefix, and of a suffix.
use Rattle.cweb_store.proofs.Common.{◌≡◌, ◌≤◌, ◌<◌, ◌+◌, ℕ, zero, suc, Bool, true, false, cond, List, [], ◌∷◌, ◌++◌, length, take, drop, get_or, refl, sym, ◌∙◌, ap, subst, arith, if◌then◌else◌, Token, token_numbers, IsTokenIndex, nat_lt}
use Rattle.cweb_store.specs.declared.tokens.token_index.TokenIndex.{TokenIndex}
use Rattle.cweb_store.specs.inner.Records.{AddsNumber}
use Rattle.std.proofs.Common.{ltb, lt-ltb, one-add}
use Rattle.std.specs.List.{prefix_len}
use Rattle.std.specs.List.Sorted.{IsNonDecreasing, IsPartitionPoint}

-- One more token.
pub numbers-push : (test : Token → Bool) (n : ℕ) (ts : List Token) (t : Token)
    → token_numbers test n (ts ++ t ∷ []) ≡ token_numbers test n ts ++ (if test t then (n + length ts) ∷ [] else [])
numbers-push test n [] t = grind arith
numbers-push test n (u ∷ us) t = grind (arith, numbers-push test (n + 1) us t, test u)

pub index-push : (old new : TokenIndex) (n : ℕ) (ts : List Token) (t : Token) → IsTokenIndex old ts → n ≡ length ts
    → AddsNumber old n t new → IsTokenIndex new (ts ++ t ∷ [])
index-push old new n ts t are count adds = grind (arith, numbers-push)

-- The indices ascend from the first token's on.
from-cons : (n : ℕ) (xs : List ℕ) (k d : ℕ)
    → ((j : ℕ) → j < length xs → n ≤ get_or xs j d) → k < length (n ∷ xs) → n ≤ get_or (n ∷ xs) k d
from-cons n xs zero d later h = omega arith
from-cons n xs (suc k) d later h = later k (omega arith)

numbers-from : (test : Token → Bool) (n : ℕ) (ts : List Token) (k d : ℕ)
    → k < length (token_numbers test n ts) → n ≤ get_or (token_numbers test n ts) k d
numbers-from test n [] k d h = absurd (let none : ⊥ = omega arith in none)
numbers-from test n (t ∷ ts) k d h =
    grind (arith, test t, from-cons n (token_numbers test (n + 1) ts), numbers-from test (n + 1) ts)

numbers-rise : (test : Token → Bool) (n : ℕ) (ts : List Token) → IsNonDecreasing (token_numbers test n ts)
numbers-rise test n [] = λ i j d le h. absurd (let none : ⊥ = omega arith in none)
numbers-rise test n (t ∷ ts) = grind (arith, test t, numbers-from test (n + 1) ts, numbers-rise test (n + 1) ts)

-- The point at which ascending numbers reach a bound.
pub point-is : (xs : List ℕ) (bound i : ℕ) → i ≤ length xs
    → IsPartitionPoint (λ x. ltb x bound ≡ true) (λ x. ltb x bound ≡ false) xs i
    → i ≡ prefix_len (λ x. nat_lt x bound) xs
point-is [] bound i le p = omega arith
point-is (x ∷ xs) bound zero le p = cc (p.1 0 0 (omega arith) (omega arith))
point-is (x ∷ xs) bound (suc i) le p =
    let later = point-is xs bound i (omega arith)
    (λ k d l h. p.0 (suc k) d (omega arith) (omega arith), λ k d l h. p.1 (suc k) d (omega arith) (omega arith)) in
    let here : 1 + prefix_len (λ y. nat_lt y bound) xs ≡ suc i = omega (arith, later) in
    sym here ∙ ap (λ b. cond b (1 + prefix_len (λ y. nat_lt y bound) xs) 0) (sym (p.0 0 0 (omega arith) (omega arith)))

none-below : (test : Token → Bool) (n bound : ℕ) (ts : List Token) → bound ≤ n
    → prefix_len (λ x. nat_lt x bound) (token_numbers test n ts) ≡ 0
none-below test n bound [] le = refl
none-below test n bound (t ∷ ts) le = grind (arith, test t, none-below test (n + 1) bound ts (omega arith))

-- Numbers below a bound belong to the prefix, the others to the suffix.
record AreCut (test : Token → Bool) (n k bound : ℕ) (ts : List Token) : Type 0 where
  pub prefix : take (prefix_len (λ x. nat_lt x bound) (token_numbers test n ts)) (token_numbers test n ts)
      ≡ token_numbers test n (take k ts)
  pub back : drop (prefix_len (λ x. nat_lt x bound) (token_numbers test n ts)) (token_numbers test n ts)
      ≡ token_numbers test bound (drop k ts)

numbers-cut : (test : Token → Bool) (n k bound : ℕ) (ts : List Token) → bound ≡ n + k → AreCut test n k bound ts
numbers-cut test n zero bound ts e = grind (arith, none-below)
numbers-cut test n (suc k) bound [] e = record { prefix = refl; back = refl }
numbers-cut test n (suc k) bound (t ∷ ts) e =
    let later = numbers-cut test (n + 1) k bound ts (omega arith) in
    let i = prefix_len (λ x. nat_lt x bound) (token_numbers test (n + 1) ts) in
    let here : nat_lt n bound ≡ true = lt-ltb n bound (omega arith) in
    record {
      prefix = grind (arith, test t, here, later.prefix, one-add i);
      back = grind (arith, test t, here, later.back, one-add i);
    }

-- The entries before the first one that isn't below n, and those from it on.
pub index-cut : (test : Token → Bool) (xs : List ℕ) (ts : List Token) (n i : ℕ) → xs ≡ token_numbers test 0 ts
    → (IsNonDecreasing xs → i ≡ prefix_len (λ x. nat_lt x n) xs)
    → (take i xs ≡ token_numbers test 0 (take n ts)) × (drop i xs ≡ token_numbers test n (drop n ts))
index-cut test xs ts n i are count =
    grind (
      arith,
      count (subst IsNonDecreasing (sym are) (numbers-rise test 0 ts)),
      numbers-cut test 0 n n ts (omega arith),
    )
