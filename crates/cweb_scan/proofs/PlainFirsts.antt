-- Punctuators of one byte.
use Rattle.cweb_scan.proofs.Common.{◌≡◌, ℕ, true, List, [], ◌∷◌, take, codes, Punct, first_is, listed, longest, IsPlainToken}
use Rattle.cweb_rules.specs.inner.Rules.{is_single_punctuator}
use Rattle.cweb_rules.proofs.FirstBytes.{from_set}

-- A punctuator of one byte.
pub record IsSign (t : List ℕ) : Type 0 where
  pub size : longest listed t ≡ 1
  pub token : IsPlainToken (Punct (take 1 t))

pub alone_sign : (b : ℕ) (t : List ℕ) → is_single_punctuator b ≡ true → IsSign (b ∷ t)
alone_sign b t h = from_set (λ n. IsSign (n ∷ t)) (codes "()[]{};,?~") (search refl) b h

pub lone-sign : (t : List ℕ) → first_is is_single_punctuator t ≡ true → IsSign t
lone-sign [] h = cc
lone-sign (b ∷ t) h = alone_sign b t h
