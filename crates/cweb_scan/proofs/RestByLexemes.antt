-- The rest of a line is taken lexeme by lexeme.
use Rattle.cweb_scan.proofs.Common.{◌≡◌, ℕ, ◌+◌, Bool, true, false, ◌&&◌, List, drop, refl, arith, codes, length-drop, begins, at_line_end, in_macro, match_in, c_rule, c_match_by, Macro, ReaderModel, TakesPrefix, drop-sum}

pub takes_none : (u : List ℕ) (h : ReaderModel) → TakesPrefix 0 u h h
takes_none u h = record { begun = refl; within = omega arith; adds = omega arith; same = λ later more e. refl }

pub takes_both : (n m : ℕ) (u : List ℕ) (a b c : ReaderModel) → TakesPrefix n u a b → TakesPrefix m (drop n u) b c
    → TakesPrefix (n + m) u a c
takes_both n m u a b c x y = grind (arith, length-drop, drop-sum)

pub macro_is : (includes : Bool) (u : List ℕ) → (begins (codes "\\") u && at_line_end (drop 1 u)) ≡ false
    → match_in Macro includes u ≡ c_match_by in_macro true u (c_rule false u)
macro_is includes u h = grind (arith, h)
