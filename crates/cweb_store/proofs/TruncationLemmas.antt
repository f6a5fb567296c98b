-- Truncating a list of strings.
use Rattle.cweb_store.proofs.Common.{◌≡◌, ℕ, zero, suc, ◌≤◌, List, [], ◌∷◌, length, take, drop, refl, arith, slice_range, take-append-drop, strings_from, AreEnds, string_start, length-take-le}
use Rattle.cweb_store.proofs.StringListLemmas.{range-grow, ends-le}

begin-from : (n all : ℕ) (ends : List ℕ) (k : ℕ) → AreEnds n ends all → n ≤ string_start n ends k
begin-from n all ends zero h = omega arith
begin-from n all [] (suc k) h = omega arith
begin-from n all (e ∷ es) (suc k) h = omega (arith, h.0, begin-from e all es k h.1)

begin-within : (n all : ℕ) (ends : List ℕ) (k : ℕ) → AreEnds n ends all → string_start n ends k ≤ all
begin-within n all ends zero h = ends-le n all ends h
begin-within n all [] (suc k) h = ends-le n all [] h
begin-within n all (e ∷ es) (suc k) h = begin-within e all es k h.1

ends-cut : (n all : ℕ) (ends : List ℕ) (k : ℕ) → AreEnds n ends all → AreEnds n (take k ends) (string_start n ends k)
ends-cut n all [] zero h = refl
ends-cut n all (e ∷ es) zero h = refl
ends-cut n all [] (suc k) h = refl
ends-cut n all (e ∷ es) (suc k) h = (h.0, ends-cut e all es k h.1)

range-cut : (bytes : List ℕ) (m i j : ℕ) → m ≤ length bytes → i ≤ j → j ≤ m
    → slice_range (take m bytes) i j ≡ slice_range bytes i j
range-cut bytes m i j within le cut =
    grind (
      arith,
      length-take-le m bytes within,
      range-grow (take m bytes) (drop m bytes) i j le,
      take-append-drop m bytes,
    )

strings-from-cut : (bytes : List ℕ) (m n : ℕ) (ends : List ℕ) (k : ℕ) → AreEnds n ends (length bytes)
    → m ≡ string_start n ends k → strings_from (take m bytes) n (take k ends) ≡ take k (strings_from bytes n ends)
strings-from-cut bytes m n [] zero h is = refl
strings-from-cut bytes m n (e ∷ es) zero h is = refl
strings-from-cut bytes m n [] (suc k) h is = refl
strings-from-cut bytes m n (e ∷ es) (suc k) h is =
    grind (arith, begin-within, begin-from, range-cut, strings-from-cut bytes m e es k h.1 is)

pub strings-cut : (bytes ends : List ℕ) (k : ℕ) → AreEnds 0 ends (length bytes)
    → strings_from (take (string_start 0 ends k) bytes) 0 (take k ends) ≡ take k (strings_from bytes 0 ends)
strings-cut bytes ends k h = strings-from-cut bytes (string_start 0 ends k) 0 ends k h refl

pub ends-are-cut : (bytes ends : List ℕ) (k : ℕ) → AreEnds 0 ends (length bytes)
    → AreEnds 0 (take k ends) (length (take (string_start 0 ends k) bytes))
ends-are-cut bytes ends k h = grind (arith, length-take-le, begin-within, ends-cut)
