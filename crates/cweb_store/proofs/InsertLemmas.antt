-- How the names that fit a prefix change when a name is inserted.
use Rattle.cweb_store.proofs.Common.{arith, ◌≡◌, ℕ, Bool, true, false, cond, List, [], ◌∷◌, map, filter, None, refl, nat_eq, starts_with, lookup, insert_entry, is_at, NameId, Found, Nothing, One, Several, NameEntry, compare_bytes, entry_has_prefix, found_of}

-- The names that fit after one more, which fits or not.
abbrev pub grown : Bool → NameId → Found → Found
grown false v f = f
grown true v Nothing = One v
grown true v (One n) = Several
grown true v Several = Several

pub found-first : (n : NameId) (ns : List NameId) → found_of (n ∷ ns) ≡ grown true n (found_of ns)
found-first n (m ∷ []) = refl
found-first n _ = refl

abbrev found : List NameEntry → Found
found es = found_of (map (λ e. e.1) es)

found-cons : (e : NameEntry) (es : List NameEntry) → found (e ∷ es) ≡ grown true e.1 (found es)
found-cons e (f ∷ []) = refl
found-cons e _ = refl

found-one : (b : Bool) (e : NameEntry) (es : List NameEntry) → found (cond b (e ∷ es) es) ≡ grown b e.1 (found es)
found-one true e es = found-cons e es
found-one false e es = refl

pub found-insert : (p : List ℕ) (es : List NameEntry) (k : List ℕ) (v : NameId)
    → lookup (is_at (compare_bytes k)) es ≡ None →
    found (filter (entry_has_prefix p) (insert_entry compare_bytes es k v))
    ≡ grown (starts_with nat_eq k p) v (found (filter (entry_has_prefix p) es))
found-insert p [] k v absent = found-one (starts_with nat_eq k p) (k, v) []
found-insert p (e ∷ es) k v absent = grind (arith, found-insert p es k v, found-cons e (filter (entry_has_prefix p) es))
