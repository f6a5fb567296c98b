-- The bytes of a line are taken step by step.
use Rattle.cweb_scan.proofs.Common.{◌≡◌, ℕ, true, List, length, drop, sym, subst, IsLine, ReaderModel, is_pending, TakesPrefix, IsLine-drop}

-- The bytes before the rest of a line were taken.
pub record TakesFirst (line rest : List ℕ) (old new : ReaderModel) : Type 0 where
  pub size : ℕ
  pub rest_is : rest ≡ drop size line
  pub taken : TakesPrefix size line old new
  pub last : is_pending new.item ≡ true → length rest ≡ 0

pub prefix_line : (line rest : List ℕ) (old new : ReaderModel) → IsLine line → TakesFirst line rest old new
    → IsLine rest
prefix_line line rest old new h f = subst IsLine (sym f.rest_is) (IsLine-drop f.size line h)
