-- The first occurrence of each name.
use Rattle.cweb_store.proofs.Common.{◌≡◌, ℕ, zero, suc, ◌+◌, ◌<◌, List, [], ◌∷◌, ◌++◌, Some, map, length, drop, refl, sym, ◌∙◌, ap, arith, get_or, slice_get, option_map, Occurrence, Name, with_full_name, with_occurrence_name, names_from, names}
use Rattle.cweb_store.proofs.RangeLemmas.{drop-here}

-- The bytes of a name are those of its first occurrence.
abbrev FirstYields : List Occurrence → Name → Type 0
FirstYields os n = option_map (λ (o : Occurrence). o.text) (slice_get os n.first) ≡ Some n.text

abbrev FirstsGive : List Occurrence → List Name → Type 0
FirstsGive os [] = Unit {0}
FirstsGive os (n ∷ ns) = FirstYields os n × FirstsGive os ns

firsts-push : (os : List Occurrence) (ns : List Name) (n : Name)
    → FirstsGive os ns → FirstYields os n → FirstsGive os (ns ++ n ∷ [])
firsts-push os [] n h here = (here, tt)
firsts-push os (m ∷ ns) n h here = (h.0, firsts-push os ns n h.1 here)

text-yields : (os : List Occurrence) (i : ℕ) (ns : List Name) (text : List ℕ) → FirstsGive os ns
    → option_map (λ (o : Occurrence). o.text) (slice_get os i) ≡ Some text → FirstsGive os (with_full_name i ns text)
text-yields os i ns text h here = grind (arith, firsts-push os ns)

name-yields : (os : List Occurrence) (i : ℕ) (ns : List Name) (o : Occurrence) → FirstsGive os ns
    → option_map (λ (o : Occurrence). o.text) (slice_get os i) ≡ Some o.text
    → FirstsGive os (with_occurrence_name i ns o)
name-yields os i ns o h here = grind (arith, text-yields os i ns o.text h here)

firsts-from : (all os : List Occurrence) (i : ℕ) (ns : List Name)
    → drop i all ≡ os → FirstsGive all ns → FirstsGive all (names_from i ns os)
firsts-from all [] i ns h forms = forms
firsts-from all (o ∷ os) i ns h forms = grind (arith, drop-here all i, firsts-from all os (i + 1), name-yields all i ns)

get-within : (os : List Occurrence) (k : ℕ) (t : List ℕ)
    → option_map (λ (o : Occurrence). o.text) (slice_get os k) ≡ Some t → k < length os
get-within [] k t h = cc
get-within (o ∷ os) zero t h = omega arith
get-within (o ∷ os) (suc k) t h = omega (arith, get-within os k t h)

pub record IsFirst (os : List Occurrence) (ns : List Name) (n k : ℕ) : Type 0 where
  pub within : k < length os
  pub same : option_map (λ (m : Name). m.text) (slice_get ns n)
      ≡ option_map (λ (o : Occurrence). o.text) (slice_get os k)

first-at : (os : List Occurrence) (ns : List Name) (n k : ℕ) → FirstsGive os ns
    → n < length ns → k ≡ get_or (map (λ (m : Name). m.first) ns) n k → IsFirst os ns n k
first-at os [] n k forms h is = absurd (let none : ⊥ = omega arith in none)
first-at os (m ∷ ns) zero k forms h is =
    let yields : option_map (λ (o : Occurrence). o.text) (slice_get os k) ≡ Some m.text =
    ap (λ j. option_map (λ (o : Occurrence). o.text) (slice_get os j)) is ∙ forms.0 in
    record { within = get-within os k m.text yields; same = sym yields }
first-at os (m ∷ ns) (suc n) k forms h is = grind (arith, first-at os ns n k forms.1 (omega arith) is)

pub first-place : (os : List Occurrence) (n k : ℕ) → n < length (names os)
    → k ≡ get_or (map (λ (m : Name). m.first) (names os)) n k → IsFirst os (names os) n k
first-place os n k h is = first-at os (names os) n k (firsts-from os os 0 [] refl tt) h is
