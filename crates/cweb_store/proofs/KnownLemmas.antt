-- Names by their first occurrences.
use Rattle.cweb_store.proofs.Common.{◌≡◌, ℕ, zero, suc, ◌<◌, true, false, bytes_eq, list_any, position_or_len, spellings, length-map, List, [], ◌∷◌, ◌++◌, Some, length, map, map-append, slice_get, AllByRecursion, names_at, option_map, refl, sym, ap, arith, Name}
use Rattle.std.specs.Prelude.{slice_index_or}
use Rattle.cweb_store.specs.inner.StringLists.{string_at}
use Rattle.cweb_store.proofs.StringListLemmas.{get-string}
use Rattle.cweb_store.proofs.NameLemmas.{position-none, position-below}

-- A number below those of the names is that of a known name, and any other is the next one.
pub known-name : (ns : List Name) (text : List ℕ) (n : ℕ) → n ≡ position_or_len (bytes_eq text) (spellings ns)
    → n < length ns → list_any (bytes_eq text) (spellings ns) ≡ true
known-name ns text n is less =
    grind (
      arith,
      list_any (bytes_eq text) (spellings ns),
      position-none (bytes_eq text) (spellings ns),
      length-map ns (λ (m : Name). m.text),
    )

pub next-name : (ns : List Name) (text : List ℕ) (n : ℕ) → n ≡ position_or_len (bytes_eq text) (spellings ns)
    → (n < length ns → ⊥) → (list_any (bytes_eq text) (spellings ns) ≡ false) × (n ≡ length ns)
next-name ns text n is more =
    grind (
      arith,
      list_any (bytes_eq text) (spellings ns),
      position-none (bytes_eq text) (spellings ns),
      position-below (bytes_eq text) (spellings ns),
      length-map ns (λ (m : Name). m.text),
    )

pub within-push : (n : ℕ) (firsts : List ℕ) (f : ℕ) → AllByRecursion (λ (g : ℕ). g < n) firsts → f < n
    → AllByRecursion (λ (g : ℕ). g < n) (firsts ++ f ∷ [])
within-push n [] f within less = (less, tt)
within-push n (g ∷ firsts) f within less = (within.0, within-push n firsts f within.1 less)

pub firsts-back : (strings : List (List ℕ)) (firsts : List ℕ)
    → map (λ (n : Name). n.first) (names_at strings firsts) ≡ firsts
firsts-back strings [] = refl
firsts-back strings (f ∷ firsts) = ap (λ (fs : List ℕ). f ∷ fs) (firsts-back strings firsts)

-- One more name, that of an occurrence with this text.
pub names-push : (strings : List (List ℕ)) (firsts : List ℕ) (f : ℕ) (text : List ℕ) → slice_get strings f ≡ Some text
    → names_at strings (firsts ++ f ∷ []) ≡ names_at strings firsts ++ (record { text = text; first = f }) ∷ []
names-push strings firsts f text given = grind (arith, map-append, names_at, get-string)

-- The spelling of a name is that of its first occurrence.
pub text-at : (strings : List (List ℕ)) (firsts : List ℕ) (i f : ℕ) → i < length firsts → f ≡ slice_index_or firsts i f
    → option_map (λ (n : Name). n.text) (slice_get (names_at strings firsts) i) ≡ Some (string_at strings f)
text-at strings [] i f h is = absurd (let none : ⊥ = omega arith in none)
text-at strings (g ∷ firsts) zero f h is = ap (λ k. Some (string_at strings k)) (sym is)
text-at strings (g ∷ firsts) (suc i) f h is = text-at strings firsts i f (omega arith) is
