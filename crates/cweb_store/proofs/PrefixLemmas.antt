-- Spellings with a common prefix are adjacent in a sorted list.
use Rattle.cweb_store.proofs.Common.{◌≡◌, ℕ, Bool, true, false, ◌&&◌, List, [], ◌∷◌, filter, refl, sym, ◌∙◌, ap, subst, arith, eq-eqb, nat_eq, starts_with, AllByRecursion, keys_of, nat_cmp, is_le, slice_cmp, Less, Equal, eqb-true, nat_tests, Nothing, One, Several, NameEntry, compare_bytes, entry_has_prefix, ids_with_prefix, found_of, Found, if◌then◌else◌}
use Rattle.std.specs.List.Sorted.{IsStrictlySortedBy}

nat_same : (x : ℕ) → nat_cmp x x ≡ Equal
nat_same x = grind (arith, nat_tests)

both : (x z : ℕ) (b : Bool) → (nat_eq x z && b) ≡ true → (x ≡ z) × (b ≡ true)
both x z b h = grind (arith, eqb-true x z)

-- A spelling between a prefix and a spelling that begins with it begins with it too.
pub squeeze : (p a b : List ℕ) → is_le (slice_cmp nat_cmp p a) ≡ true
    → slice_cmp nat_cmp a b ≡ Less → starts_with nat_eq b p ≡ true → starts_with nat_eq a p ≡ true
squeeze [] a b h g s = refl
squeeze (x ∷ p) [] b h g s = cc
squeeze (x ∷ p) (y ∷ a) [] h g s = cc
squeeze (x ∷ p) (y ∷ a) (z ∷ b) h g s = grind (arith, both x z (starts_with nat_eq b p) s, eq-eqb x y, squeeze p a b)

pub begins-le : (p b : List ℕ) → starts_with nat_eq b p ≡ true → is_le (slice_cmp nat_cmp p b) ≡ true
begins-le [] [] s = refl
begins-le [] (z ∷ b) s = refl
begins-le (x ∷ p) [] s = cc
begins-le (x ∷ p) (z ∷ b) s = grind (arith, both x z (starts_with nat_eq b p) s, nat_same x, begins-le p b)

pub none-begins : (p : List ℕ) (k : List ℕ) (es : List NameEntry) → is_le (slice_cmp nat_cmp p k) ≡ true
    → starts_with nat_eq k p ≡ false → AllByRecursion (λ j. compare_bytes k j ≡ Less) (keys_of es)
    → filter (entry_has_prefix p) es ≡ []
none-begins p k [] low other above = refl
none-begins p k (e ∷ es) low other above =
    grind (arith, starts_with nat_eq e.0 p, squeeze p k e.0, low, other, above, none-begins p k es)

pub from-begins : (p : List ℕ) (es : List NameEntry)
    → filter (entry_has_prefix p) (filter (λ (e : NameEntry). is_le (slice_cmp nat_cmp p e.0) && true) es)
    ≡ filter (entry_has_prefix p) es
from-begins p [] = refl
from-begins p (e ∷ es) = grind (arith, from-begins p es, begins-le)

abbrev from : List ℕ → List NameEntry → List NameEntry
from p es = filter (λ (e : NameEntry). is_le (slice_cmp nat_cmp p e.0) && true) es

all-from : (p : List ℕ) (k : List ℕ) (es : List NameEntry) → AllByRecursion (λ j. compare_bytes k j ≡ Less) (keys_of es)
    → AllByRecursion (λ j. compare_bytes k j ≡ Less) (keys_of (from p es))
all-from p k [] h = tt
all-from p k (e ∷ es) h = grind (arith, from p es, all-from p k es h.1)

sorted-from : (p : List ℕ) (es : List NameEntry) → IsStrictlySortedBy compare_bytes (keys_of es)
    → IsStrictlySortedBy compare_bytes (keys_of (from p es))
unfolding IsStrictlySortedBy
sorted-from p [] h = tt
sorted-from p (e ∷ es) h = grind (arith, from p es, all-from p e.0 es h.0, sorted-from p es h.1)

low-from : (p : List ℕ) (es : List NameEntry)
    → AllByRecursion (λ (e : NameEntry). is_le (slice_cmp nat_cmp p e.0) ≡ true) (from p es)
low-from p [] = tt
low-from p (e ∷ es) = grind (arith, from p es, low-from p es)

-- The first two entries from the prefix on decide how many begin with it.
pub record Names (p : List ℕ) (es rest : List NameEntry) : Type 0 where
  pub is : filter (entry_has_prefix p) es ≡ filter (entry_has_prefix p) rest
  pub sorted : IsStrictlySortedBy compare_bytes (keys_of rest)
  pub low : AllByRecursion (λ (e : NameEntry). is_le (slice_cmp nat_cmp p e.0) ≡ true) rest

pub names-from : (p : List ℕ) (es : List NameEntry) → IsStrictlySortedBy compare_bytes (keys_of es)
    → Names p es (from p es)
names-from p es h = record { is = sym (from-begins p es); sorted = sorted-from p es h; low = low-from p es }

-- What the first two entries decide.
abbrev pub by_first_two : List ℕ → List NameEntry → Found
by_first_two p [] = Nothing
by_first_two p (e ∷ []) = if starts_with nat_eq e.0 p then One e.1 else Nothing
by_first_two p (e ∷ f ∷ rest) =
    if starts_with nat_eq e.0 p then (if starts_with nat_eq f.0 p then Several else One e.1) else Nothing

names-decide : (p : List ℕ) (es rest : List NameEntry) → Names p es rest
    → found_of (ids_with_prefix p es) ≡ by_first_two p rest
unfolding IsStrictlySortedBy
names-decide p es [] h = cc
names-decide p es (e ∷ []) h = grind (arith, h.is, starts_with nat_eq e.0 p)
names-decide p es (e ∷ f ∷ rest) h =
    grind (
      arith,
      h.is,
      starts_with nat_eq e.0 p,
      starts_with nat_eq f.0 p,
      none-begins p e.0 (f ∷ rest) h.low.0,
      h.sorted.0,
      none-begins p f.0 rest h.low.1.0,
      h.sorted.1.0,
    )

pub names_decide : (p q : List ℕ) (es rest : List NameEntry)
    → rest ≡ filter (λ (e : NameEntry). is_le (slice_cmp nat_cmp q e.0) && true) es
    → q ≡ p → IsStrictlySortedBy compare_bytes (keys_of es) → found_of (ids_with_prefix p es) ≡ by_first_two p rest
names_decide p q es rest is same h = names-decide p es rest
    (subst (Names p es) (sym (is ∙ ap (λ r. from r es) same)) (names-from p es h))
