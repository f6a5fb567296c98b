-- Worked examples: tokens, and a relation that holds for all adjacent bytes.
use Rattle.cweb_rules.proofs.Common.{ℕ, Bool, true, ◌||◌, ◌&&◌, ◌==◌, not, [], ◌∷◌, ◌++◌, refl, codes, is_one_of, is_digit, JoinsAll, IsToken, Code, Quoted, Identifier, Numeral, Punctuator, EmitAt, Closed, or_left}

abbrev is_operator : ℕ → Bool
is_operator b = is_one_of (codes "+-*/%&|^!=<>.:#") b

abbrev joins : ℕ → ℕ → Bool
joins x y = (x == 46 && is_digit y) || (is_operator x && is_operator y && (not (y == 46) || x == 46))

operators_join : JoinsAll joins
operators_join = record {
  punctuators = refl;
  comment = refl;
  line_comment = refl;
  number = λ digit h. or_left (is_digit digit) (is_operator digit && (not (digit == 46) || true)) h;
}

number : IsToken Numeral (codes "0xe+")
number = record { whole = refl; token = refl }

word : IsToken Identifier (codes "u8R")
word = record { whole = refl; token = refl }

arrow : IsToken Punctuator (codes "->*")
arrow = record { whole = refl; token = refl }

sign : IsToken (Code EmitAt) (codes "@@")
sign = record { whole = refl; token = refl }

null : IsToken Punctuator (0 ∷ [])
null = record { whole = refl; token = refl }

-- A literal of two lines.
two_lines : IsToken (Quoted ((34 ∷ []) ∷ (64 ∷ 64 ∷ []) ∷ (92 ∷ 10 ∷ []) ∷ (34 ∷ []) ∷ []) Closed)
    (34 ∷ 64 ∷ 64 ∷ 92 ∷ 10 ∷ 34 ∷ [])
two_lines = record { whole = refl; token = refl }

-- A raw literal with a newline and an `@`.
raw : IsToken (Quoted (codes "R\"(" ∷ (10 ∷ []) ∷ codes "@@" ∷ codes ")\"" ∷ []) Closed)
    (codes "R\"(" ++ 10 ∷ 64 ∷ 64 ∷ codes ")\"")
raw = record { whole = refl; token = refl }
