-- How items begin.
use Rattle.cweb_scan.proofs.Common.{◌≡◌, ℕ, Bool, true, false, ◌&&◌, ◌==◌, List, [], ◌∷◌, codes, eqb-true, begins, ReaderModel, OpenItem, ScanState, and_parts, arith}

abbrev pub opened : ScanState → Bool → OpenItem → ReaderModel
opened s g item = record { state = s; item = item; begun = g }

-- A source that begins with two bytes.
pub two : (x y : ℕ) (u : List ℕ) → begins (x ∷ y ∷ []) u ≡ true → (w : List ℕ) × (x ∷ y ∷ w ≡ u)
two x y [] h = cc
two x y (a ∷ []) h = let wrong : false ≡ true = (and_parts (x == a) false h).1 in cc
two x y (a ∷ b ∷ w) h =
    let p = and_parts (x == a) ((y == b) && true) h in
    (w, (λ i. eqb-true x a p.0 i ∷ eqb-true y b (and_parts (y == b) true p.1).0 i ∷ w))

-- No literal begins with `\`.
pub not_back : (starts : List ℕ → Bool) (b : ℕ) (t : List ℕ) → starts (92 ∷ t) ≡ false → starts (b ∷ t) ≡ true
    → begins (codes "\\") (b ∷ t) ≡ false
not_back starts b t none h = grind (arith, eqb-true)
