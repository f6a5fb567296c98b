-- The tables of first bytes and of identifier bytes agree with their definitions.
use Rattle.cweb_rules.proofs.Common.{◌≡◌, ◌<◌, ℕ, zero, suc, ◌+◌, Bool, true, ◌&&◌, ◌==◌, List, [], ◌∷◌, ◌++◌, length, replicate, slice_index_or, refl, ap, sym, ◌∙◌, arith, eqb-true, and_parts, false, is_word_byte}
use Rattle.cweb_files.proofs.ByteTables.{known_by_table}
use Rattle.cweb_rules.specs.inner.Rules.{first_byte_class}
use Rattle.cweb_rules.specs.declared.firsts.Plain.{Plain}
use Rattle.cweb_rules.specs.declared.firsts.Plain.TheVariants.{Lone, Operator, Digit, Quote, Stop, Blank, Word, Further}

-- Classes as numbers, so that computing compares them.
abbrev number : Plain → ℕ
number p = elim p [ Blank ↦ 0 | Word ↦ 1 | Lone ↦ 2 | Operator ↦ 3 | Digit ↦ 4 | Quote ↦ 5 | Further ↦ 6 | Stop ↦ 7 ]

abbrev kind : ℕ → Plain
kind n = slice_index_or (Blank ∷ Word ∷ Lone ∷ Operator ∷ Digit ∷ Quote ∷ Further ∷ []) n Stop

kind_back : (p : Plain) → kind (number p) ≡ p
kind_back Blank = refl
kind_back _ = refl

-- The entries from index `k` on agree with the definition.
abbrev agrees : ℕ → List Plain → Bool
agrees k [] = true
agrees k (x ∷ xs) = (number x == number (first_byte_class k)) && agrees (suc k) xs

known_from : (xs : List Plain) (k i b : ℕ) (d : Plain) → agrees k xs ≡ true → i < length xs → b ≡ k + i
    → slice_index_or xs i d ≡ first_byte_class b
known_from [] k i b d h within e = absurd (omega (arith, within))
known_from (x ∷ xs) k zero b d h within e =
    let here : k ≡ b = omega (arith, e) in
    let test = number x == number (first_byte_class k) in
    let same = eqb-true (number x) (number (first_byte_class k)) (and_parts test (agrees (suc k) xs) h).0 in
    sym (kind_back x) ∙ ap kind same ∙ kind_back (first_byte_class k) ∙ ap first_byte_class here
known_from (x ∷ xs) k (suc i) b d h within e = known_from xs (suc k) i b d
    (and_parts (number x == number (first_byte_class k)) (agrees (suc k) xs) h).1 (omega (arith, within))
    (omega (arith, e))

-- The table as spans of equal classes.
abbrev pub firsts : List Plain
firsts = replicate 9 Operator ++ replicate 1 Blank ++ replicate 1 Further ++ replicate 3 Blank
    ++ replicate 18 Operator ++ replicate 1 Blank ++ replicate 1 Operator ++ replicate 1 Quote ++ replicate 1 Stop
    ++ replicate 1 Word ++ replicate 2 Operator ++ replicate 1 Quote ++ replicate 2 Lone ++ replicate 2 Operator
    ++ replicate 1 Lone ++ replicate 1 Operator ++ replicate 2 Further ++ replicate 10 Digit ++ replicate 1 Operator
    ++ replicate 1 Lone ++ replicate 3 Operator ++ replicate 1 Lone ++ replicate 1 Stop ++ replicate 11 Word
    ++ replicate 1 Further ++ replicate 5 Word ++ replicate 1 Further ++ replicate 2 Word ++ replicate 1 Further
    ++ replicate 5 Word ++ replicate 1 Lone ++ replicate 1 Stop ++ replicate 1 Lone ++ replicate 1 Operator
    ++ replicate 1 Word ++ replicate 1 Operator ++ replicate 20 Word ++ replicate 1 Further ++ replicate 5 Word
    ++ replicate 1 Lone ++ replicate 1 Operator ++ replicate 2 Lone ++ replicate 1 Operator ++ replicate 128 Word

pub first_known : (b : ℕ) (d : Plain) → b < 256 → slice_index_or firsts b d ≡ first_byte_class b
first_known b d small = known_from firsts 0 b b d refl small (omega arith)

-- The table of identifier bytes as spans of equal values.
abbrev pub word_bytes : List Bool
word_bytes = replicate 36 false ++ replicate 1 true
    ++ replicate 11 false ++ replicate 10 true ++ replicate 7 false ++ replicate 26 true ++ replicate 4 false
    ++ replicate 1 true ++ replicate 1 false ++ replicate 26 true ++ replicate 5 false ++ replicate 128 true

pub word_known : (b : ℕ) → b < 256 → slice_index_or word_bytes b false ≡ is_word_byte b
word_known b small = known_by_table is_word_byte word_bytes refl b small
