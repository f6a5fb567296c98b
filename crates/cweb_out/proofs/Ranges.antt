-- Tokens of a range.
use Rattle.cweb_out.proofs.Common.{◌≡◌, ◌≤◌, ◌<◌, ◌+◌, ℕ, [], ◌∷◌, List, Some, length, arith, slice_range, slice_index_or, zero, suc, add-one, slice_get, Token, Blank, Stored, all_tokens}
use Rattle.std.proofs.Math.Seq.{drop-cons}
use Rattle.std.proofs.lemmas.Option.{slice_get-get_or, get_or_from_slice_get}
use Rattle.cweb_out.specs.inner.Edges.{token_at}

pub slice_get-or : (ts : List Token) (i : ℕ) (t : Token) → slice_get ts i ≡ Some t → t ≡ slice_index_or ts i t
slice_get-or [] i t h = cc
slice_get-or (x ∷ ts) zero t h = cc
slice_get-or (x ∷ ts) (suc i) t h = slice_get-or ts i t h

pub slice_range-first : (ts : List Token) (a b : ℕ) (t : Token) → a < b → b ≤ length ts
    → t ≡ slice_index_or ts a t → slice_range ts a b ≡ t ∷ slice_range ts (a + 1) b
slice_range-first ts a b t h k e = grind (arith, drop-cons ts a t, add-one a)

-- The token at an index.
pub there : (w : Stored) (n : ℕ) → n < length (all_tokens w.parts)
    → slice_get (all_tokens w.parts) n ≡ Some (token_at w n)
there w n within = slice_get-get_or (all_tokens w.parts) n Blank within

pub at_index : (w : Stored) (n : ℕ) (t : Token) → slice_get (all_tokens w.parts) n ≡ Some t → token_at w n ≡ t
at_index w n t is = get_or_from_slice_get (all_tokens w.parts) n t Blank is
