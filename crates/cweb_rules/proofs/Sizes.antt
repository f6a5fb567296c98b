-- Delimited items are within the source.
use Rattle.cweb_rules.proofs.Common.{◌≡◌, ◌≤◌, ℕ, zero, suc, ◌-◌, Bool, true, false, ◌==◌, List, [], ◌∷◌, length, take, refl, arith, length-append, if◌then◌else◌, codes, flat_map, length-drop, prefix_len-le-length, begins, is_gap, Look, Goes, Ends, reach, reach_in, reach_size, opener_after, End, Closed, unit_bytes, unescaped, look_in_control, look_in_name, opener_len, look_in_comment, look_in_literal, look_in_include, look_in_raw, and_parts, at_start}

pub take-at_most : (n : ℕ) (t : List ℕ) → length (take n t) ≤ n
take-at_most zero t = omega arith
take-at_most (suc n) [] = omega arith
take-at_most (suc n) (b ∷ t) = omega (arith, take-at_most n t)

pub take-within : (n : ℕ) (t : List ℕ) → length (take n t) ≤ length t
take-within zero t = omega arith
take-within (suc n) [] = omega arith
take-within (suc n) (b ∷ t) = omega (arith, take-within n t)

pub begins-size : (p t : List ℕ) → begins p t ≡ true → length p ≤ length t
begins-size [] t h = omega arith
begins-size (x ∷ p) [] h = cc
begins-size (x ∷ p) (b ∷ t) h = omega (arith, begins-size p t (and_parts (x == b) (begins p t) h).1)

pub units-text : (us : List (List ℕ)) → length (unescaped us) ≤ length (flat_map (λ u. u) us)
units-text [] = omega arith
units-text (u ∷ us) =
    omega (
      arith,
      unit u,
      units-text us,
      length-append (unit_bytes u) (unescaped us),
      length-append u (flat_map (λ v. v) us),
    )
  where
    unit : (u : List ℕ) → length (unit_bytes u) ≤ length u
    unit [] = omega arith
    unit (x ∷ xs) = grind arith

abbrev pub end_size : Look → ℕ
end_size (Goes n) = 0
end_size (Ends n how) = n

abbrev pub IsWithin : (List ℕ → Look) → Type 0
IsWithin look = (t : List ℕ) → end_size (look t) ≤ length t

at_start-size : (look : List ℕ → Look) (how : End) (b : ℕ) (t : List ℕ) (v : Look) → end_size v ≤ length (b ∷ t)
    → ((k : ℕ) → reach_size (reach_in look how k t) ≤ length t - k)
    → reach_size (at_start look v (b ∷ t) how t) ≤ length (b ∷ t)
at_start-size look how b t (Ends n e) h rest = omega (arith, h)
at_start-size look how b t (Goes n) h rest = grind (arith, length-append, take-at_most, take-within)

reach_in-size : (look : List ℕ → Look) (how : End) → IsWithin look
    → (k : ℕ) (t : List ℕ) → reach_size (reach_in look how k t) ≤ length t - k
reach_in-size look how within k [] = omega arith
reach_in-size look how within (suc k) (b ∷ t) = omega (arith, reach_in-size look how within k t)
reach_in-size look how within zero (b ∷ t) =
    omega (arith, at_start-size look how b t (look (b ∷ t)) (within (b ∷ t)) (λ k. reach_in-size look how within k t))

pub reach-size : (look : List ℕ → Look) (how : End) → IsWithin look
    → (t : List ℕ) → reach_size (reach look how t) ≤ length t
reach-size look how within t = omega (arith, reach_in-size look how within 0 t)

either : (v : Bool) (x y : Look) (n : ℕ) → (v ≡ true → end_size x ≤ n)
    → end_size y ≤ n → end_size (if v then x else y) ≤ n
either true x y n f g = f refl
either false x y n f g = g

goes : (v : Bool) (x y : Look) (n : ℕ) → end_size x ≤ n → end_size y ≤ n → end_size (if v then x else y) ≤ n
goes true x y n f g = f
goes false x y n f g = g

pub control-within : IsWithin look_in_control
control-within t = grind (arith, either, begins-size, goes)

pub name-within : IsWithin look_in_name
name-within t = grind (arith, either, begins-size, goes)

pub comment-within : (closes : List ℕ → Bool) (n : ℕ)
    → ((t : List ℕ) → closes t ≡ true → n ≤ length t) → IsWithin (look_in_comment closes n)
comment-within closes n sign t = grind (arith, either, goes)

pub literal-within : (quote : ℕ) → IsWithin (look_in_literal quote)
literal-within quote t = grind (arith, either, begins-size, goes)

pub include-within : IsWithin look_in_include
include-within t = grind (arith, either, begins-size, goes)

pub raw-within : (sign : List ℕ) → IsWithin (look_in_raw sign)
raw-within sign t = grind (arith, either, begins-size, goes)

sign_size : (u : List ℕ) → (if begins (codes "=") u then 1 else (if begins (codes "+=") u then 2 else 0)) ≤ length u
sign_size u = grind arith

pub opener_len-size : (t : List ℕ) → opener_len t ≤ length t
opener_len-size t = grind (arith, sign_size, length-drop, prefix_len-le-length is_gap t)

pub opener_after-size : (how : End) (t : List ℕ) → opener_after how t ≤ length t
opener_after-size Closed t = opener_len-size t
opener_after-size _ t = omega arith
