-- The effect of a newline between two items.
use Rattle.cweb_scan.proofs.Common.{◌≡◌, ℕ, Bool, List, [], ◌∷◌, refl, ap, Place, Context, Limbo, TeX, match_in, Kind, Skipped, LineEnd, rule_match, ScanState, line_end_in, line_end, enter_in, item, lex, arith}
use Rattle.cweb_scan.proofs.TakenItems.{reading}

abbrev newline_kind : Context → Kind
newline_kind Limbo = Skipped
newline_kind TeX = Skipped
newline_kind _ = LineEnd

prefix-newline : (c : Context) (includes : Bool) (t : List ℕ)
    → match_in c includes (10 ∷ t) ≡ rule_match (newline_kind c) 1
prefix-newline Limbo includes [] = refl
prefix-newline Limbo includes (b ∷ t) = refl
prefix-newline TeX includes [] = refl
prefix-newline TeX includes (b ∷ t) = refl
prefix-newline _ includes t = refl

item-newline : (c : Context) (q : Place) (s : ScanState) (later : List Place) → s.context ≡ c
    → item (newline_kind c) (10 ∷ []) (reading (enter_in c (newline_kind c) s) (q ∷ later))
    ≡ reading (line_end_in c q s) later
item-newline Limbo q s later h = refl
item-newline TeX q s later h = refl
item-newline _ q s later h = ap (λ c. reading (line_end_in c q s) later) h

-- Between two items.
pub run-newline : (q : Place) (s : ScanState) (later : List Place) (t : List ℕ)
    → lex (reading s (q ∷ later)) (10 ∷ t) ≡ lex (reading (line_end q s) later) t
run-newline q s later t = grind (arith, prefix-newline, item-newline)
