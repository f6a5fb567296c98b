-- Ranges of lists.
use Rattle.cweb_store.proofs.Common.{◌≡◌, ℕ, zero, suc, ◌+◌, ◌-◌, ◌≤◌, ◌<◌, List, [], ◌∷◌, ◌++◌, Some, take, drop, ap, arith, length, slice_get, PartRange, Token, drop-drop}
use Rattle.cweb_store.proofs.OccurrenceTableLemmas.{drop-at}
use Rattle.std.specs.Prelude.{slice_range, slice_index_or}
use Rattle.cweb_store.specs.inner.PartRanges.{RangesFollow}
use Rattle.std.proofs.Math.Seq.{take-add}
use Rattle.cweb_store.proofs.PartRangeLemmas.{Follow-le}

pub range-split : {X : Type 0} (xs : List X) (i j k : ℕ) → i ≤ j → j ≤ k
    → slice_range xs i k ≡ slice_range xs i j ++ slice_range xs j k
range-split xs i j k low high = grind (arith, take-add (j - i) (k - j) (drop i xs), drop-drop (j - i) i xs)

-- The first element of a suffix is at the suffix's index.
pub drop-here : {X : Type 0} (xs : List X) (i : ℕ) (x : X) (rest : List X)
    → drop i xs ≡ x ∷ rest → (slice_get xs i ≡ Some x) × (drop (suc i) xs ≡ rest)
drop-here [] zero x rest h = cc
drop-here [] (suc i) x rest h = cc
drop-here (y ∷ xs) zero x rest h = (let e : Some y ≡ Some x = cc in e, let e : xs ≡ rest = cc in e)
drop-here (y ∷ xs) (suc i) x rest h = drop-here xs i x rest h

-- A range begins with the token at its first index.
pub range-head : (ts : List Token) (i k : ℕ) (t : Token) → slice_get ts i ≡ Some t → i < k
    → slice_range ts i k ≡ t ∷ slice_range ts (i + 1) k
range-head ts i k t here less = grind (arith, drop-at ts i t here)

pub range-none : (ts : List Token) (i k : ℕ) → k ≤ i → slice_range ts i k ≡ []
range-none ts i k le = ap (λ n. take n (drop i ts)) (let e : k - i ≡ 0 = omega (arith, le) in e)

-- Each range is ordered and within the tokens.
pub Follow-at : (ranges : List PartRange) (n end : ℕ) → RangesFollow n ranges end → (k : ℕ) (d : PartRange)
    → k < length ranges
    → ((slice_index_or ranges k d).part.first ≤ (slice_index_or ranges k d).part.after)
    × ((slice_index_or ranges k d).part.after ≤ end)
Follow-at [] n end h k d less = absurd (let none : ⊥ = omega arith in none)
Follow-at (r ∷ ranges) n end h zero d less = (omega (arith, h.0, h.1), Follow-le r.part.after end ranges h.2)
Follow-at (r ∷ ranges) n end h (suc k) d less = Follow-at ranges r.part.after end h.2 k d (omega arith)
