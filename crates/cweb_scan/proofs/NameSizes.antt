-- A name has at most as many bytes as its lexeme.
use Rattle.cweb_scan.proofs.Common.{◌≤◌, ℕ, ◌+◌, Bool, true, false, List, [], ◌∷◌, length, arith, length-append, if◌then◌else◌, codes, as_occurrence, name_occurrence, squeezed_after, squeezed}
use Rattle.cweb_rules.proofs.Sizes.{take-within}

gap-size : (begun : Bool) → length (if begun then codes " " else []) ≤ 1
gap-size true = omega arith
gap-size false = omega arith

squeezed-size : (begun : Bool) (gap t : List ℕ) → length (squeezed_after begun gap t) ≤ length gap + length t
squeezed-size begun gap [] = omega arith
squeezed-size begun gap (b ∷ t) =
    grind (
      arith,
      gap-size,
      length-append,
      squeezed-size true [] t,
      squeezed-size begun (if begun then codes " " else []) t,
    )

emitted-size : (is_file : Bool) (text : List ℕ) → length (as_occurrence is_file text).text ≤ length text
emitted-size is_file text = grind (arith, take-within)

pub occurrence-size : (is_file : Bool) (text : List ℕ) → length (name_occurrence is_file text).text ≤ length text
occurrence-size is_file text = omega (arith, emitted-size is_file (squeezed text), squeezed-size false [] text)
