-- The first index entry from a part's first token on.
use Rattle.cweb_store.proofs.Common.{◌≡◌, ◌≤◌, ◌<◌, ◌+◌, ◌-◌, ℕ, zero, suc, Bool, true, false, List, [], ◌∷◌, length, get_or, take, drop, refl, sym, ◌∙◌, ap, subst, arith, list_any, Token, IsNextNumber, token_numbers, nat_lt}
use Rattle.std.proofs.Common.{drop-cons, drop_of_length-le}
use Rattle.std.specs.List.{prefix_len}
use Rattle.std.specs.List.Sorted.{IsNonDecreasing}
use Rattle.std.specs.Prelude.{option_map, slice_get, Some}
use Rattle.cweb_store.proofs.ListLemmas.{get-drop}
use Rattle.cweb_store.specs.declared.parts.Part.{Part}
use Rattle.cweb_store.proofs.TokenIndexLemmas.{index-cut}

-- The first of the numbers, if there is one, is at least a bound.
abbrev pub BeginsFrom : ℕ → List ℕ → Type 0
BeginsFrom bound [] = Unit {0}
BeginsFrom bound (x ∷ xs) = bound ≤ x

pub begins-none : (bound : ℕ) (xs : List ℕ) → length xs ≡ 0 → BeginsFrom bound xs
begins-none bound [] none = tt
begins-none bound (x ∷ xs) none = absurd (let no : ⊥ = omega (arith, none) in no)

-- No token before the first number passes.
none-before : (test : Token → Bool) (n k : ℕ) (ts : List Token)
    → BeginsFrom (n + k) (token_numbers test n ts) → list_any test (take k ts) ≡ false
none-before test n zero ts from = refl
none-before test n (suc k) [] from = refl
none-before test n (suc k) (t ∷ ts) from = grind (arith, none-before test (n + 1) k ts)

-- The token at the first number passes.
pub first-low : (test : Token → Bool) (n m : ℕ) (ts : List Token) (xs : List ℕ) → token_numbers test n ts ≡ m ∷ xs → n ≤ m
first-low test n m [] xs is = cc
first-low test n m (t ∷ ts) xs is = grind (arith, test t, first-low test (n + 1) m ts xs)

first-passes : (test : Token → Bool) (n m k : ℕ) (ts : List Token) (xs : List ℕ)
    → token_numbers test n ts ≡ m ∷ xs → m ≡ n + k → option_map test (slice_get ts k) ≡ Some true
first-passes test n m k [] xs is at = cc
first-passes test n m zero (t ∷ ts) xs is at = grind (arith, test t, first-low test (n + 1) m ts xs)
first-passes test n m (suc k) (t ∷ ts) xs is at = grind (arith, test t, first-passes test (n + 1) m k ts xs)

head-at : (xs : List ℕ) (i m : ℕ) → i < length xs → m ≡ get_or xs i m → drop i xs ≡ m ∷ drop (suc i) xs
head-at xs i m less is = drop-cons xs i m less ∙ ap (λ x. x ∷ drop (suc i) xs) (sym is)

-- The numbers after the first one are those of the tokens after it.
pub next-rest : (test : Token → Bool) (n m k : ℕ) (ts : List Token) (xs : List ℕ)
    → token_numbers test n ts ≡ m ∷ xs → m ≡ n + k → xs ≡ token_numbers test (m + 1) (drop (k + 1) ts)
next-rest test n m k [] xs is at = cc
next-rest test n m zero (t ∷ ts) xs is at = grind (arith, test t, first-low test (n + 1) m ts xs)
next-rest test n m (suc k) (t ∷ ts) xs is at = grind (arith, test t, next-rest test (n + 1) m k ts xs)

-- The first of the numbers from a part's first token on is the next one, if it is in the part.
pub next-first : (test : Token → Bool) (ts : List Token) (part : Part) (m : ℕ) (xs : List ℕ)
    → token_numbers test part.first (drop part.first ts) ≡ m ∷ xs → m < part.after → IsNextNumber test ts part m
next-first test ts part m xs head less =
    let n = part.first in
    let low = first-low test n m (drop n ts) xs head in
    let place : m ≡ n + (m - n) = omega (arith, low) in
    record {
      begins = low;
      within = omega (arith, less);
      before = none-before test n (m - n) (drop n ts) (subst (BeginsFrom (n + (m - n))) (sym head) (omega
          (arith, low)));
      found = λ l. rw (place, ← get-drop ts n (m - n)) (first-passes test n m (m - n) (drop n ts) _ head place);
    }

pub next-is : (test : Token → Bool) (ts : List Token) (part : Part) (xs : List ℕ) (i m : ℕ)
    → xs ≡ token_numbers test 0 ts → (IsNonDecreasing xs → i ≡ prefix_len (λ x. nat_lt x part.first) xs)
    → i < length xs → m ≡ get_or xs i m → m < part.after → IsNextNumber test ts part m
next-is test ts part xs i m are count some here less =
    let n = part.first in
    let head : token_numbers test n (drop n ts) ≡ m ∷ drop (suc i) xs =
    sym ((index-cut test xs ts n i are count).1) ∙ head-at xs i m some here in
    next-first test ts part m (drop (suc i) xs) head less

pub none-found : (test : Token → Bool) (ts : List Token) (part : Part) → part.first ≤ part.after
    → BeginsFrom part.after (token_numbers test part.first (drop part.first ts)) → IsNextNumber test ts part part.after
none-found test ts part le from = grind (arith, none-before)

pub next-none : (test : Token → Bool) (ts : List Token) (part : Part) (xs : List ℕ) (i : ℕ)
    → xs ≡ token_numbers test 0 ts → (IsNonDecreasing xs → i ≡ prefix_len (λ x. nat_lt x part.first) xs)
    → part.first ≤ part.after → length xs ≤ i → IsNextNumber test ts part part.after
next-none test ts part xs i are count le here =
    let following = (index-cut test xs ts part.first i are count).1 in
    none-found test ts part le (subst (BeginsFrom part.after) (sym (drop_of_length-le xs here) ∙ following) tt)

pub next-past : (test : Token → Bool) (ts : List Token) (part : Part) (xs : List ℕ) (i m : ℕ)
    → xs ≡ token_numbers test 0 ts → (IsNonDecreasing xs → i ≡ prefix_len (λ x. nat_lt x part.first) xs)
    → part.first ≤ part.after → i < length xs → m ≡ get_or xs i m → part.after ≤ m
    → IsNextNumber test ts part part.after
next-past test ts part xs i m are count le some here past =
    let following = (index-cut test xs ts part.first i are count).1 in
    none-found test ts part le (subst (BeginsFrom part.after) (sym (head-at xs i m some here) ∙ following) past)
