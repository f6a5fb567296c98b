-- The arguments that were read so far.
use Rattle.std.proofs.Common.{◌≡◌, ◌+◌, ℕ, List, [], ◌∷◌, ◌++◌, Some, None, String, Global, map, string_bytes, take, refl, sym, ◌∙◌, ap, subst, arith, zero, suc}
use Rattle.std.specs.Prelude.{All, IsUtf8}
use Rattle.std.specs.List.{slice_get}
use Rattle.std.proofs.lemmas.List.{map-append, take_more}
use Rattle.std.proofs.lemmas.List.Elements.{All-append}
use Rattle.std.proofs.lemmas.Option.{get_or_from_slice_get, slice_get_within}

-- The first arguments, and one more.
taken_more : (args : List (List ℕ)) (at : ℕ) (x : List ℕ) → slice_get args at ≡ Some x
    → take (at + 1) args ≡ take at args ++ x ∷ []
taken_more args at x is = take_more args at [] (slice_get_within args at x is)
    ∙ ap (λ (y : List ℕ). take at args ++ y ∷ []) (get_or_from_slice_get args at x [] is)

pub words_more : (words : List (String Global)) (word : String Global) (args : List (List ℕ)) (at : ℕ)
    → map string_bytes words ≡ take at args → slice_get args at ≡ Some (string_bytes word)
    → map string_bytes (words ++ word ∷ []) ≡ take (at + 1) args
words_more words word args at before is = grind (arith, map-append, taken_more)

one_valid : (x : List ℕ) → IsUtf8 x → All IsUtf8 (x ∷ [])
one_valid x valid zero d within = valid
one_valid x valid (suc k) d within = absurd (omega (arith, within))

pub valid_more : (args : List (List ℕ)) (at : ℕ) (x : List ℕ) → All IsUtf8 (take at args)
    → slice_get args at ≡ Some x → IsUtf8 x → All IsUtf8 (take (at + 1) args)
valid_more args at x before is valid = subst (All IsUtf8) (sym (taken_more args at x is))
    (All-append IsUtf8 (take at args) (x ∷ []) before (one_valid x valid))

some_is : (x : List ℕ) → Some x ≡ None → ⊥
some_is x is = cc

-- All arguments were taken.
pub all_taken : (args : List (List ℕ)) (at : ℕ) → slice_get args at ≡ None → take at args ≡ args
all_taken [] zero none = refl
all_taken [] (suc at) none = refl
all_taken (x ∷ xs) zero none = absurd (some_is x none)
all_taken (x ∷ xs) (suc at) none = ap (λ (ys : List (List ℕ)). x ∷ ys) (all_taken xs at none)

-- One of valid arguments is valid.
pub valid_at : (args : List (List ℕ)) (at : ℕ) (x : List ℕ) → All IsUtf8 args → slice_get args at ≡ Some x → IsUtf8 x
valid_at args at x valid is = subst IsUtf8 (get_or_from_slice_get args at x [] is)
    (valid at [] (slice_get_within args at x is))
