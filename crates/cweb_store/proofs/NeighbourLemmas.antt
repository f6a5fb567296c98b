-- A name that is a proper prefix of another is a prefix of its successor.
use Rattle.cweb_store.proofs.Common.{arith, ◌≡◌, ℕ, zero, suc, Bool, true, false, cond, ◌||◌, List, [], ◌∷◌, Some, map, filter, refl, sym, ◌∙◌, ap, nat_eq, bytes_eq, slice_get, starts_with, list_any, AllByRecursion, keys_of, lookup, is_at, is_eq, is_le, ordering_reverse, bytes_decides, nat_list_cmp_total, Less, Greater, is_eq-slice_cmp, NameId, Found, Name, spellings, is_prefix_of_another, NameEntry, compare_bytes, entry_has_prefix, found_of, is_several, next_begins, any_next, id_of_spelling, IsNameMap}
use Rattle.std.specs.List.Sorted.{IsStrictlySortedBy}
use Rattle.cweb_store.proofs.PrefixLemmas.{none-begins, begins-le}
use Rattle.cweb_store.proofs.NameLemmas.{bytes_eq-same, or-false, number-some, number-none}
use Rattle.cweb_store.proofs.LongerLemmas.{any-there, several-longer, starts-same}

abbrev found : List NameEntry → Found
found es = found_of (map (λ e. e.1) es)

abbrev is_some : List NameEntry → Bool
is_some [] = false
is_some (e ∷ es) = true

-- If some greater spelling begins with this one, the first of them does.
next-some : (p : List ℕ) (es : List NameEntry) → AllByRecursion (λ k. compare_bytes p k ≡ Less) (keys_of es)
    → IsStrictlySortedBy compare_bytes (keys_of es)
    → next_begins p (keys_of es) ≡ is_some (filter (entry_has_prefix p) es)
unfolding IsStrictlySortedBy
next-some p [] above sorted = refl
next-some p (e ∷ es) above sorted = grind (arith, is_some, none-begins p e.0 es (ap is_le above.0))

two : (e : NameEntry) (es : List NameEntry) → is_some es ≡ true → is_several (found (e ∷ es)) ≡ true
two e [] h = cc
two e (f ∷ es) h = refl

more : (b : Bool) (e : NameEntry) (es : List NameEntry) → is_several (found es) ≡ true
    → is_several (found (cond b (e ∷ es) es)) ≡ true
more false e es h = h
more true e (f ∷ []) h = cc
more true e _ h = cc

same-key : (p k : List ℕ) → is_eq (compare_bytes p k) ≡ true → p ≡ k
same-key p k h = (bytes_decides p k).0 (sym (is_eq-slice_cmp p k) ∙ h)

at-itself : (p : List ℕ) → is_eq (compare_bytes p p) ≡ true
at-itself p = is_eq-slice_cmp p p ∙ bytes_eq-same p

below-found : (k p : List ℕ) (v : NameId) (es : List NameEntry)
    → AllByRecursion (λ j. compare_bytes k j ≡ Less) (keys_of es)
    → lookup (is_at (compare_bytes p)) es ≡ Some v → compare_bytes k p ≡ Less
below-found k p v [] above h = cc
below-found k p v (e ∷ es) above h =
    grind (arith, is_eq (compare_bytes p e.0), h, above, same-key p e.0, below-found k p v es)

not-begins : (k p : List ℕ) → compare_bytes k p ≡ Less → starts_with nat_eq k p ≡ false
not-begins k p less =
    let greater : compare_bytes p k ≡ Greater = nat_list_cmp_total.antisymm p k ∙ ap ordering_reverse less in
    grind (arith, starts_with nat_eq k p, greater, begins-le p k)

-- If no spelling begins with its predecessor, no several begin with one.
none-next : (es : List NameEntry) → IsStrictlySortedBy compare_bytes (keys_of es) → any_next (keys_of es) ≡ false →
    (p : List ℕ) (v : NameId) → lookup (is_at (compare_bytes p)) es ≡ Some v
    → is_several (found (filter (entry_has_prefix p) es)) ≡ false
unfolding IsStrictlySortedBy
none-next [] sorted none p v h = cc
none-next (e ∷ es) sorted none p v h =
    grind (
      arith,
      or-false (next_begins e.0 (keys_of es)) (any_next (keys_of es)) none,
      same-key p e.0,
      next-some e.0 es sorted.0 sorted.1,
      not-begins e.0 p,
      below-found e.0 p v es sorted.0,
      none-next es sorted.1,
    )

-- A spelling of the map with which several begin.
pub record Several (es : List NameEntry) : Type 0 where
  pub text : List ℕ
  pub value : NameId
  pub there : lookup (is_at (compare_bytes text)) es ≡ Some value
  pub several : is_several (found (filter (entry_has_prefix text) es)) ≡ true

still-there : (p : List ℕ) (e : NameEntry) (es : List NameEntry) (v : NameId)
    → lookup (is_at (compare_bytes p)) es ≡ Some v
    → (w : NameId) × (lookup (is_at (compare_bytes p)) (e ∷ es) ≡ Some w)
still-there p e es v h = elim (is_eq (compare_bytes p e.0)) as (λ b.
    (w : NameId) × (cond b (Some e.1) (lookup (is_at (compare_bytes p)) es) ≡ Some w))
    [ true ↦ (e.1, refl) | false ↦ (v, h) ]

some-next : (es : List NameEntry) → IsStrictlySortedBy compare_bytes (keys_of es) → any_next (keys_of es) ≡ true
    → Several es
unfolding IsStrictlySortedBy
some-next [] sorted some = cc
some-next (e ∷ es) sorted some = (elim (next_begins e.0 (keys_of es)) as (λ b. next_begins e.0 (keys_of es) ≡ b
    → (b || any_next (keys_of es)) ≡ true → Several (e ∷ es)) [
      | true ↦ λ is g.
          let after : is_some (filter (entry_has_prefix e.0) es) ≡ true = sym (next-some e.0 es sorted.0 sorted.1)
          ∙ is in
          record {
            text = e.0;
            value = e.1;
            there = ap (λ b. cond b (Some e.1) (lookup (is_at (compare_bytes e.0)) es)) (at-itself e.0);
            several = ap (λ b. is_several
                (found (cond b (e ∷ filter (entry_has_prefix e.0) es) (filter (entry_has_prefix e.0) es))))
                (starts-same e.0) ∙ two e (filter (entry_has_prefix e.0) es) after;
          }
      | false ↦ λ is g.
          let rest = some-next es sorted.1 g in
          let found_there = still-there rest.text e es rest.value rest.there in
          record {
            text = rest.text;
            value = found_there.0;
            there = found_there.1;
            several = more (starts_with nat_eq e.0 rest.text) e (filter (entry_has_prefix rest.text) es) rest.several;
          }
    ]) refl some

any-none : (fails : List ℕ → Bool) (ns : List Name)
    → ((i : ℕ) (n : Name) → slice_get ns i ≡ Some n → fails n.text ≡ false) → list_any fails (spellings ns) ≡ false
any-none fails [] h = refl
any-none fails (n ∷ ns) h =
    ap (λ b. b || list_any fails (spellings ns)) (h zero n refl) ∙ any-none fails ns (λ i m there. h (suc i) m there)

any-same : (p : List ℕ) (fails : List ℕ → Bool) (ts : List (List ℕ)) → fails p ≡ true
    → list_any (bytes_eq p) ts ≡ true → list_any fails ts ≡ true
any-same p fails [] f h = cc
any-same p fails (t ∷ ts) f h = grind (arith, fails t, bytes_decides p t, any-same p fails ts f)

number-there : (q : List ℕ) (ns : List Name) → list_any (bytes_eq q) (spellings ns) ≡ true
    → (v : NameId) × (id_of_spelling 0 q ns ≡ Some v)
number-there q ns h = grind (arith, number-none 0 q ns)

pub next-prefix : (es : List NameEntry) (ns : List Name) → IsNameMap es ns
    → IsStrictlySortedBy compare_bytes (keys_of es)
    → any_next (keys_of es) ≡ list_any (is_prefix_of_another ns) (spellings ns)
next-prefix es ns known sorted =
    let longer : (q : List ℕ) → list_any (bytes_eq q) (spellings ns) ≡ true
    → is_several (found (filter (entry_has_prefix q) es)) ≡ is_prefix_of_another ns q = λ q there.
    ap is_several (known.finds q) ∙ several-longer 0 q ns known.distinct there in
    (elim (any_next (keys_of es)) as (λ b. any_next (keys_of es) ≡ b
    → b ≡ list_any (is_prefix_of_another ns) (spellings ns)) [
      | true ↦ λ is.
          let s = some-next es sorted is in
          let there : list_any (bytes_eq s.text) (spellings ns) ≡ true =
          (number-some 0 s.text ns s.value (sym (known.yields s.text) ∙ s.there)).0 in
          sym (any-same s.text (is_prefix_of_another ns) (spellings ns) (sym (longer s.text there) ∙ s.several) there)
      | false ↦ λ is. sym (any-none (is_prefix_of_another ns) ns (λ i n here.
          let there = any-there ns i n here in
          let v = number-there n.text ns there in
          sym (longer n.text there) ∙ none-next es sorted is n.text v.0 (known.yields n.text ∙ v.1)))
    ]) refl
