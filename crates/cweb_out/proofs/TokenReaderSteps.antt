-- Direct tokens, by index.
use Rattle.cweb_out.proofs.Common.{arith, ◌≡◌, ℕ, List, Option, None, Some, map, option_map, slice_get, slice_get-map, Token, TokenBytesModel, direct_bytes}

-- The token at an index has these bytes.
pub record BorrowsAt (ts : List Token) (n : ℕ) (l : TokenBytesModel) : Type 0 where
  pub token : Token
  pub there : slice_get ts n ≡ Some token
  pub direct : direct_bytes token ≡ Some l

borrowed_in : (ts : List Token) (n : ℕ) (l : TokenBytesModel) (o : Option Token) → slice_get ts n ≡ o
    → option_map direct_bytes o ≡ Some (Some l) → BorrowsAt ts n l
borrowed_in ts n l None there h = cc
borrowed_in ts n l (Some t) there h = record { token = t; there = there; direct = cc }

-- The reader of all tokens returns them.
pub direct-at : (lenders : List (Option TokenBytesModel)) (ts : List Token) (n : ℕ) (l : TokenBytesModel)
    → lenders ≡ map direct_bytes ts
    → slice_get lenders n ≡ Some (Some l) → BorrowsAt ts n l
direct-at lenders ts n l are h = grind (arith, borrowed_in, slice_get-map)
