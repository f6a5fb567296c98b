-- Membership in a set of file keys.
use Rattle.std.proofs.Common.{arith, ◌≡◌, ◌↔◌, ◌⊎◌, Bool, true, cond, List, Contains, IsTrue, slice_index_or, sym, ◌∙◌, refl, ap, subst, nat_cmp}
use Rattle.std.specs.declared.cmp.Ordering.{Ordering}
use Rattle.std.specs.declared.cmp.Ordering.TheVariants.{Less, Equal, Greater}
use Rattle.std.specs.List.{list_any, Any}
use Rattle.std.specs.BTreeMap.{is_at}
use Rattle.std.specs.Ordering.{is_eq, ordering_then}
use Rattle.std.proofs.lemmas.List.Folds.{list_any_at, Any-from_list_any}
use Rattle.std.proofs.lemmas.Map.Lookups.{exact_unsigned}
use Rattle.cweb_system.specs.inner.Written.{compare_keys, is_among}
use Rattle.cweb_system.specs.declared.node.FileKey.{FileKey}

both_equal : (a b : Ordering) → is_eq (ordering_then a b) ≡ true → (a ≡ Equal) × (b ≡ Equal)
both_equal Equal Equal e = (refl, refl)
both_equal Equal Less e = search
both_equal Equal Greater e = search
both_equal _ b e = search

same : (a b : FileKey) → (nat_cmp a.device b.device ≡ Equal) × (nat_cmp a.number b.number ≡ Equal) → b ≡ a
same a b equal = grind (arith, exact_unsigned)

itself : (a : FileKey) → is_at (compare_keys a) a ≡ true
itself a = grind arith

found : (file : FileKey) (keys : List FileKey) → Any (λ k. is_at (compare_keys file) k ≡ true) keys → Contains keys file
found file keys (n, k, within, at, equal) =
    (n, within, subst (λ (key : FileKey). slice_index_or keys n key ≡ key) (same file k (both_equal _ _ equal)) at)

-- A set contains a file exactly if it has an equal key.
pub among : (file : FileKey) (keys : List FileKey) (has : Bool) → has ≡ list_any (is_at (compare_keys file)) keys
    → IsTrue has ↔ Contains keys file
among file keys has is = (
  (λ t. found file keys (Any-from_list_any (is_at (compare_keys file)) keys (sym is ∙ t))),
  (λ (n, within, at).
      is ∙ list_any_at (is_at (compare_keys file)) keys n file within
      (ap (is_at (compare_keys file)) at ∙ itself file)),
)

abbrev Adds : FileKey → List FileKey → List FileKey → Type 0
Adds file keys after = (q : FileKey) → is_among after q ≡ cond (is_at (compare_keys file) q) true (is_among keys q)

pub kept_among : (file : FileKey) (keys after : List FileKey) → Adds file keys after → (q : FileKey)
    → IsTrue (is_among keys q) → IsTrue (is_among after q)
kept_among file keys after adds q was = grind arith

pub only_among : (file : FileKey) (keys after : List FileKey) → Adds file keys after → (q : FileKey)
    → IsTrue (is_among after q) → IsTrue (is_among keys q) ⊎ (q ≡ file)
only_among file keys after adds q now = grind (arith, same, both_equal)
