-- Interned words, and how many bytes strings have.
use Rattle.cweb_store.proofs.Common.{◌≡◌, ℕ, ◌+◌, false, ◌||◌, List, [], ◌∷◌, ◌++◌, arith, bytes_eq, list_any, bytes_decides, list_any-append, total, with_word, or_comm}

pub total-append : {A : Type 0} (f : A → ℕ) (xs ys : List A) → total f (xs ++ ys) ≡ total f xs + total f ys
total-append f [] ys = omega arith
total-append f (x ∷ xs) ys = omega (arith, total-append f xs ys)

-- a word is among words with one more where it is among them or is that one
pub with-word-any : (q : List ℕ) (ws : List (List ℕ)) (w : List ℕ)
    → list_any (bytes_eq q) (with_word ws w) ≡ (list_any (bytes_eq q) ws || bytes_eq q w)
with-word-any q ws w =
    grind (
      arith,
      list_any (bytes_eq w) ws,
      bytes_eq q w,
      bytes_decides q w,
      list_any-append (bytes_eq q) ws (w ∷ []),
      or_comm (list_any (bytes_eq q) ws),
      or_comm (bytes_eq q w) false,
    )
