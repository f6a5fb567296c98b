-- Tests of bytes, and of the first and the last byte of a text.
use Rattle.std.specs.Prelude.{ℕ, Bool, false, ◌==◌, List, [], ◌∷◌, codes}
use Rattle.std.specs.List.{list_any}

-- The byte is in a list.
abbrev pub is_one_of : List ℕ → ℕ → Bool
is_one_of bytes b = list_any (λ x. x == b) bytes

-- A byte that may be part of a longer operator.
abbrev pub is_operator : ℕ → Bool
is_operator b = is_one_of (codes "+-*/%&|^!=<>.:#?") b

-- The first byte exists and passes a test.
abbrev pub first_is : (ℕ → Bool) → List ℕ → Bool
first_is test [] = false
first_is test (b ∷ bytes) = test b

-- The last byte exists and passes a test.
abbrev pub last_is : (ℕ → Bool) → List ℕ → Bool
last_is test [] = false
last_is test (b ∷ []) = test b
last_is test (b ∷ c ∷ bytes) = last_is test (c ∷ bytes)
