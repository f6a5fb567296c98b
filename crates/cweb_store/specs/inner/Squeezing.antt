-- Nonempty spellings that squeezing leaves unchanged.
use Rattle.std.specs.Prelude.{ℕ, Bool, true, false, ◌&&◌, ◌==◌, not, List, [], ◌∷◌}
use Rattle.cweb_rules.specs.Bytes.{is_white}

-- White space is only single spaces, each before another byte. `gap`: no space may come next.
abbrev pub is_squeezed_after : Bool → List ℕ → Bool
is_squeezed_after gap [] = not gap
is_squeezed_after gap (b ∷ t) = elim (is_white b) [
  | true ↦ not gap && (b == 32) && is_squeezed_after true t
  | false ↦ is_squeezed_after false t
]

abbrev pub is_squeezed : List ℕ → Bool
is_squeezed t = is_squeezed_after true t

-- a byte of a word of a name
abbrev pub is_in_word : ℕ → Bool
is_in_word b = not (is_white b)
