-- Direct tokens need no frame.
use Rattle.cweb_out.proofs.Common.{◌≡◌, ◌++◌, [], ◌∷◌, refl, List, true, flat_map, NameId, Token, Name, Stored, put, AreDirect, is_direct, and_parts, arith}

put-direct : (w : Stored) (text : NameId → List Token) (t : Token) → is_direct t ≡ true → put w text t ≡ t ∷ []
put-direct w text (Name r) h = cc
put-direct w text _ h = refl

-- Expansion keeps them.
pub put-all-direct : (w : Stored) (text : NameId → List Token) (ts rest : List Token) → AreDirect ts
    → flat_map (put w text) (ts ++ rest) ≡ ts ++ flat_map (put w text) rest
put-all-direct w text [] rest h = refl
put-all-direct w text (t ∷ ts) rest h = grind (arith, put-direct, and_parts, put-all-direct w text ts rest)
