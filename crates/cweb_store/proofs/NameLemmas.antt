-- Names in lists and maps.
use Rattle.cweb_store.proofs.Common.{◌≡◌, ℕ, zero, suc, ◌+◌, Bool, true, false, cond, ◌||◌, List, [], ◌∷◌, ◌++◌, Some, None, length, refl, sym, ◌∙◌, ap, subst, arith, bytes_eq, if◌then◌else◌, nat_eq, list_any, starts_with, position_or_len, lookup, is_eq, nat_cmp, slice_cmp, is_eq-slice_cmp, bytes_eq-Decides, map-append, list_any-append, NameId, Name, id, spellings, beginning_from, beginning, with_full_name, NameEntry, compare_bytes, found_of, id_of_spelling, Distinct, IsNameMap, slice_get, drop, ◌<◌}
use Rattle.std.specs.BTreeMap as tree
use Rattle.cweb_store.proofs.InsertLemmas.{grown, found-insert}

pub bytes_eq-same : (a : List ℕ) → bytes_eq a a ≡ true
bytes_eq-same a = (bytes_eq-Decides a a).1 refl

pub bytes_eq-sym : (a b : List ℕ) → bytes_eq a b ≡ bytes_eq b a
bytes_eq-sym a b = grind (arith, bytes_eq-Decides)

-- The item at an index, and the rest after it.
pub record Prefix {X : Type 0} (xs : List X) (i : ℕ) : Type 0 where
  pub item : X
  pub there : slice_get xs i ≡ Some item
  pub prefix : drop i xs ≡ item ∷ drop (suc i) xs

pub prefix_at : {X : Type 0} (xs : List X) (i : ℕ) → i < length xs → Prefix xs i
prefix_at [] i h = absurd (omega arith)
prefix_at (x ∷ xs) zero h = record { item = x; there = refl; prefix = refl }
prefix_at (x ∷ xs) (suc i) h = grind (arith, prefix_at xs i (omega arith))

pub record Neither (a b : Bool) : Type 0 where
  pub left : a ≡ false
  pub right : b ≡ false

pub or-false : (a b : Bool) → (a || b) ≡ false → Neither a b
or-false true b h = cc
or-false false b h = record { left = refl; right = h }

pub number-some : (i : ℕ) (q : List ℕ) (ns : List Name) (n : NameId) → id_of_spelling i q ns ≡ Some n
    → (list_any (bytes_eq q) (spellings ns) ≡ true) × (n.0 ≡ i + position_or_len (bytes_eq q) (spellings ns))
number-some i q [] n h = cc
number-some i q (m ∷ ns) n h = grind (arith, number-some (i + 1) q ns n)

pub number-none : (i : ℕ) (q : List ℕ) (ns : List Name) → id_of_spelling i q ns ≡ None
    → list_any (bytes_eq q) (spellings ns) ≡ false
number-none i q [] h = refl
number-none i q (m ∷ ns) h = grind (arith, bytes_eq q m.text, h, number-none (i + 1) q ns)

pub number-new : (i : ℕ) (q : List ℕ) (ns : List Name) → list_any (bytes_eq q) (spellings ns) ≡ false
    → id_of_spelling i q ns ≡ None
number-new i q [] h = refl
number-new i q (m ∷ ns) h = grind (arith, number-new (i + 1) q ns)

number-push : (i : ℕ) (q : List ℕ) (ns : List Name) (n : Name) (j : ℕ) → j ≡ i + length ns
    → list_any (bytes_eq n.text) (spellings ns) ≡ false
    → id_of_spelling i q (ns ++ n ∷ []) ≡ cond (bytes_eq q n.text) (Some (id j)) (id_of_spelling i q ns)
number-push i q [] n j e new = grind arith
number-push i q (m ∷ ns) n j e new =
    grind (arith, number-push (i + 1) q ns n j (omega arith), bytes_eq-Decides q m.text, bytes_eq-sym m.text n.text)

pub position-none : {K : Type 0} (p : K → Bool) (ks : List K) → list_any p ks ≡ false → position_or_len p ks ≡ length ks
position-none p [] h = refl
position-none p (k ∷ ks) h = grind (arith, or-false (p k) (list_any p ks) h, p k, position-none p ks)

pub position-below : (p : List ℕ → Bool) (xs : List (List ℕ)) → list_any p xs ≡ true → position_or_len p xs < length xs
position-below p [] h = cc
position-below p (x ∷ xs) h = grind (arith, p x, position-below p xs)

pub with_text-there : (i : ℕ) (ns : List Name) (text : List ℕ)
    → list_any (bytes_eq text) (spellings ns) ≡ true → with_full_name i ns text ≡ ns
with_text-there i ns text h = ap (λ b. if b then ns else ns ++ (record { text = text; first = i }) ∷ []) h

pub with_text-new : (i : ℕ) (ns : List Name) (text : List ℕ) → list_any (bytes_eq text) (spellings ns) ≡ false
    → with_full_name i ns text ≡ ns ++ (record { text = text; first = i }) ∷ []
with_text-new i ns text h = ap (λ b. if b then ns else ns ++ (record { text = text; first = i }) ∷ []) h

beginning-push : (i : ℕ) (p : List ℕ) (ns : List Name) (n : Name) (j : ℕ) → j ≡ i + length ns →
    found_of (beginning_from i p (ns ++ n ∷ []))
    ≡ grown (starts_with nat_eq n.text p) (id j) (found_of (beginning_from i p ns))
beginning-push i p [] n j e = grind (arith, grown)
beginning-push i p (m ∷ ns) n j e = grind (arith, beginning-push (i + 1) p ns n j (omega arith))

abbrev at : List ℕ → List ℕ → Bool
at q k = is_eq (slice_cmp nat_cmp q k)

lookup-inserted : (es : List NameEntry) (key : List ℕ) (v : NameId) (q : List ℕ)
    → lookup (at q) (tree.insert_entry compare_bytes es key v) ≡ cond (bytes_eq q key) (Some v) (lookup (at q) es)
lookup-inserted [] key v q = ap (λ b. cond b (Some v) None) (is_eq-slice_cmp q key)
lookup-inserted (e ∷ es) key v q =
    grind (
      arith,
      is_eq-slice_cmp q e.0,
      is_eq-slice_cmp q key,
      bytes_eq-Decides key e.0,
      is_eq-slice_cmp key e.0,
      lookup-inserted es key v q,
      bytes_eq-Decides q key,
      bytes_eq-Decides q e.0,
    )

pub Distinct-push : (xs : List (List ℕ)) (y : List ℕ) → Distinct xs
    → list_any (bytes_eq y) xs ≡ false → Distinct (xs ++ y ∷ [])
Distinct-push [] y d h = (refl, tt)
Distinct-push (x ∷ xs) y d h =
    grind (arith, list_any-append (bytes_eq x) xs (y ∷ []), bytes_eq-sym x y, Distinct-push xs y d.1)

pub strings-push : (ns : List Name) (n : Name) → spellings (ns ++ n ∷ []) ≡ spellings ns ++ n.text ∷ []
strings-push ns n = map-append (λ (m : Name). m.text) ns (n ∷ [])

pub known-push : (es : List NameEntry) (ns : List Name) (key : List ℕ) (first : ℕ) (v : NameId)
    → IsNameMap es ns → list_any (bytes_eq key) (spellings ns) ≡ false → v ≡ id (length ns) →
    IsNameMap (tree.insert_entry compare_bytes es key v) (ns ++ (record { text = key; first = first }) ∷ [])
known-push es ns key first v known new last =
    let n : Name = record { text = key; first = first } in
    record {
      finds = λ p. found-insert p es key v (known.yields key ∙ number-new 0 key ns new)
          ∙ ap (grown (starts_with nat_eq key p) v) (known.finds p)
          ∙ ap (λ w. grown (starts_with nat_eq key p) w (found_of (beginning p ns))) last
          ∙ sym (beginning-push 0 p ns n (length ns) (omega arith));
      yields = λ q.
          lookup-inserted es key v q ∙ ap (λ r. cond (bytes_eq q key) (Some v) r) (known.yields q)
          ∙ ap (λ w. cond (bytes_eq q key) (Some w) (id_of_spelling 0 q ns)) last
          ∙ sym (number-push 0 q ns n (length ns) (omega arith) new);
      distinct = subst Distinct (sym (strings-push ns n)) (Distinct-push (spellings ns) key known.distinct new);
    }
