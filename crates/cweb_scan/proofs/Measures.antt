-- How the calls of a builder change its size.
use Rattle.cweb_scan.proofs.Common.{◌≤◌, ℕ, ◌+◌, Bool, List, [], ◌∷◌, ◌++◌, Option, Some, None, take, drop, ap, arith, take-append-drop, option_map, option_to_list, PartKind, Token, Blank, Part, PartsSoFar, with_opened_part, with_pushed_token, part_with_token, with_dropped_layout, with_closed_part, before_last, without_last, without_blank, without_layout, protected_count, is_layout, at_close, sum_over, part_size, open_size, parts_size, total-append}

module _ (f : Token → ℕ) where
  open_pushed : (t : Token) (o : Option Part) → open_size f (option_map (part_with_token t) o) ≤ open_size f o + f t
  open_pushed t None = omega arith
  open_pushed t (Some p) = omega (arith, total-append f p.tokens (t ∷ []))

  pub pushed-size : (t : Token) (v : PartsSoFar) → parts_size f (with_pushed_token t v) ≤ parts_size f v + f t
  pushed-size t v = omega (arith, open_pushed t v.current)

  pub opened-size : (kind : PartKind) (v : PartsSoFar) → parts_size f (with_opened_part kind v) ≤ parts_size f v
  opened-size kind v = omega arith

  before_last-size : (test : Token → Bool) (t : Token) (us : List Token)
      → sum_over f (before_last test t us) ≤ f t + sum_over f us
  before_last-size test t [] = grind arith
  before_last-size test t (u ∷ us) = omega arith

  without_last-size : (test : Token → Bool) (ts : List Token) → sum_over f (without_last test ts) ≤ sum_over f ts
  without_last-size test [] = omega arith
  without_last-size test (t ∷ ts) =
      omega (arith, before_last-size test t (without_last test ts), without_last-size test ts)

  without_blank-size : (ts : List Token) → sum_over f (without_blank ts) ≤ sum_over f ts
  without_blank-size [] = omega arith
  without_blank-size (t ∷ u ∷ us) = omega (arith, without_blank-size (u ∷ us))
  without_blank-size (Blank ∷ []) = omega arith
  without_blank-size (t ∷ []) = omega arith

  at_close-size : (p : Part) → part_size f (at_close p) ≤ part_size f p
  at_close-size p = grind (arith, without_blank-size, without_last-size)

  open_closed : (o : Option Part) → sum_over (part_size f) (option_to_list (option_map at_close o)) ≤ open_size f o
  open_closed None = omega arith
  open_closed (Some p) = omega (arith, at_close-size p)

  pub closed-size : (v : PartsSoFar) → parts_size f (with_closed_part v) ≤ parts_size f v
  closed-size v = grind (arith, total-append, open_closed)

  layout-size : (n : ℕ) (ts : List Token) → sum_over f (take n ts ++ without_last is_layout (drop n ts)) ≤ sum_over f ts
  layout-size n ts = omega (
    arith,
    total-append f (take n ts) (without_last is_layout (drop n ts)),
    without_last-size is_layout (drop n ts),
    total-append f (take n ts) (drop n ts),
    ap (λ us. sum_over f us) (take-append-drop n ts),
  )

  open_dropped : (o : Option Part) → open_size f (option_map without_layout o) ≤ open_size f o
  open_dropped None = omega arith
  open_dropped (Some p) = layout-size (protected_count p.kind) p.tokens

  pub dropped-size : (v : PartsSoFar) → parts_size f (with_dropped_layout v) ≤ parts_size f v
  dropped-size v = omega (arith, open_dropped v.current)
