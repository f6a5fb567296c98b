-- Bytes that are written unchanged.
use Rattle.cweb_out.proofs.Common.{arith, ◌≡◌, ℕ, Bool, true, false, ◌||◌, List, [], ◌∷◌, refl, nat_le, list_any, word_bytes, wants_backslash, quoted}

first_false : (a b : Bool) → (a || b) ≡ false → a ≡ false
first_false true b h = h
first_false false b h = refl

rest_false : (a b : Bool) → (a || b) ≡ false → b ≡ false
rest_false true b h = cc
rest_false false b h = h

pub ascii_word : (replaced : ℕ → List ℕ) (bytes : List ℕ)
    → list_any (λ b. nat_le 128 b) bytes ≡ false → word_bytes replaced bytes ≡ bytes
ascii_word replaced [] h = refl
ascii_word replaced (b ∷ bytes) h = grind (arith, first_false, rest_false, ascii_word replaced bytes)

pub plain_name : (bytes : List ℕ) → list_any wants_backslash bytes ≡ false → quoted bytes ≡ bytes
plain_name [] h = refl
plain_name (b ∷ bytes) h = grind (arith, first_false, rest_false, plain_name bytes)
