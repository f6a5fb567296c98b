-- The first lexeme of a source, and the lexemes after it.
use Rattle.cweb_scan.proofs.Common.{◌≡◌, ℕ, ◌<◌, suc, zero, List, [], ◌∷◌, take, drop, refl, Lexeme, Reading, after_lexeme, next_match, lexemes, lexemes_in, arith}
use Rattle.cweb_rules.proofs.UnitNewlines.{drop-pred}

pieces_in-drop : (k : ℕ) (r : Reading) (t : List ℕ) → lexemes_in k r t ≡ lexemes_in 0 r (drop k t)
pieces_in-drop zero r t = refl
pieces_in-drop (suc k) r [] = refl
pieces_in-drop (suc k) r (b ∷ t) = pieces_in-drop k r t

abbrev pub first : Reading → List ℕ → Lexeme
first r t = record { kind = (next_match r.state t).kind; bytes = take (next_match r.state t).size t }

-- The lexemes of a source are the first one and those of the rest.
pub pieces_first : (r : Reading) (b : ℕ) (t : List ℕ) → 0 < (next_match r.state (b ∷ t)).size → lexemes r (b ∷ t)
    ≡ first r (b ∷ t) ∷ lexemes (after_lexeme r (first r (b ∷ t))) (drop (next_match r.state (b ∷ t)).size (b ∷ t))
pieces_first r b t h = grind (arith, pieces_in-drop, drop-pred)
