-- A table with one entry per byte agrees with a test of bytes.
use Rattle.std.proofs.lemmas.Bool.{and_parts}
use Rattle.std.proofs.Common.{◌≡◌, ◌<◌, ℕ, zero, suc, ◌+◌, Bool, true, false, ◌&&◌, not, List, [], ◌∷◌, length, slice_index_or, refl, sym, arith}

abbrev pub same : Bool → Bool → Bool
same true b = b
same false b = not b

same_is : (x y : Bool) → same x y ≡ true → x ≡ y
same_is true y h = sym h
same_is false true h = cc
same_is false false h = refl

-- The entries of a table from index `k` on are the results of the test.
abbrev pub agrees : (ℕ → Bool) → ℕ → List Bool → Bool
agrees test k [] = true
agrees test k (x ∷ xs) = same x (test k) && agrees test (suc k) xs

known_from : (test : ℕ → Bool) (xs : List Bool) (k i b : ℕ) → agrees test k xs ≡ true → i < length xs → b ≡ k + i
    → slice_index_or xs i false ≡ test b
known_from test [] k i b h within e = absurd (omega (arith, within))
known_from test (x ∷ xs) k zero b h within e = grind (arith, same_is, and_parts)
known_from test (x ∷ xs) k (suc i) b h within e =
    known_from test xs (suc k) i b (and_parts (same x (test k)) (agrees test (suc k) xs) h).1
    (omega (arith, within)) (omega (arith, e))

pub known_by_table : (test : ℕ → Bool) (xs : List Bool) → agrees test 0 xs ≡ true → (b : ℕ) → b < length xs
    → slice_index_or xs b false ≡ test b
known_by_table test xs h b within = known_from test xs 0 b b h within (omega arith)
