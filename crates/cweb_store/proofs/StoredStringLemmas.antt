-- The strings of a store: replacements, and the number of bytes.
use Rattle.cweb_store.proofs.Common.{◌≡◌, ℕ, ◌+◌, ◌≤◌, ◌<◌, Bool, true, false, List, [], ◌∷◌, ◌++◌, Option, Some, None, map, length, drop, refl, ap, arith, length-append, flat_map, slice_get, option_and_then, nat_eq, if◌then◌else◌, all_tokens, fold, Replacement, replacement, Stored, total, token_strings, interned_token_bytes, occurrence_text, replacement_bytes, uninterned_store_bytes, interned_store_bytes, AreSpansOf, AreInOneList, replacements_at, last_from}
use Rattle.cweb_store.proofs.RangeLemmas.{drop-here}
use Rattle.cweb_store.proofs.NumberLemmas.{distinct-bytes}
use Rattle.cweb_store.proofs.WordLemmas.{kept-few}
use Rattle.cweb_store.proofs.TokenStringLemmas.{all-both, all-before, all-after}
use Rattle.cweb_store.specs.Parts.{Part}
use Rattle.cweb_store.specs.Names.{Occurrence}
use Rattle.cweb_store.specs.Calls.{stored}
use Rattle.cweb_store.specs.surface.Tokens.{distinct_strings}
use Rattle.cweb_store.specs.inner.Stored.{HoldsBytes}

-- The replacement of a byte after more calls: the last one wins.
abbrev replaced_by : ℕ → Option (List ℕ) → List Replacement → Option (List ℕ)
replaced_by byte text rs = fold (λ text r. if nat_eq r.byte byte then Some r.text else text) text rs

-- The replacement of a byte is the last one.
abbrev pub at_last : List (List ℕ) → Option ℕ → Option (List ℕ)
at_last ts found = option_and_then (slice_get ts) found

last-replaces : (all ts : List (List ℕ)) (bs : List ℕ) (byte i : ℕ) (found : Option ℕ) → drop i all ≡ ts → length ts
    ≡ length bs → replaced_by byte (at_last all found) (replacements_at ts bs) ≡ at_last all (last_from byte found i bs)
last-replaces all ts [] byte i found h size = refl
last-replaces all [] (b ∷ bs) byte i found h size = absurd (let none : ⊥ = omega arith in none)
last-replaces all (t ∷ ts) (b ∷ bs) byte i found h size = grind (arith, drop-here, last-replaces all ts bs byte (i + 1))

pub last-is : (ts : List (List ℕ)) (bs : List ℕ) (byte : ℕ) → length ts ≡ length bs
    → replacement (replacements_at ts bs) byte ≡ at_last ts (last_from byte None 0 bs)
last-is ts bs byte size = last-replaces ts ts bs byte 0 None refl size

last_from-within : (byte i n : ℕ) (found : Option ℕ) (bs : List ℕ) (k : ℕ)
    → ((j : ℕ) → found ≡ Some j → j < n) → i + length bs ≤ n → last_from byte found i bs ≡ Some k → k < n
last_from-within byte i n found [] k early h is = early k is
last_from-within byte i n found (b ∷ bs) k early h is = last_from-within byte
    (i + 1) n (if nat_eq b byte then Some i else found) bs k (step (nat_eq b byte)) (omega arith) is
  where
    step : (v : Bool) (j : ℕ) → (if v then Some i else found) ≡ Some j → j < n
    step true j e = let same : i ≡ j = cc in omega (arith, same, h)
    step false j e = early j e

pub last-within : (byte : ℕ) (bs : List ℕ) (k : ℕ) → last_from byte None 0 bs ≡ Some k → k < length bs
last-within byte bs k is = last_from-within byte 0 (length bs) None bs k (λ j e. cc) (omega arith) is

pub replacements-back : (rs : List Replacement)
    → replacements_at (map replacement_bytes rs) (map (λ (r : Replacement). r.byte) rs) ≡ rs
replacements-back [] = refl
replacements-back (r ∷ rs) = ap (λ rest. r ∷ rest) (replacements-back rs)

-- The strings of a store.
pub replacements-valid : (bytes : List ℕ) (ts : List (List ℕ)) (bs : List ℕ)
    → AreSpansOf bytes ts → AreSpansOf bytes (map replacement_bytes (replacements_at ts bs))
replacements-valid bytes ts [] h = tt
replacements-valid bytes [] (b ∷ bs) h = tt
replacements-valid bytes (t ∷ ts) (b ∷ bs) h = (h.0, replacements-valid bytes ts bs h.1)

pub store-strings : (n m k : ℕ) (ts us vs : List (List ℕ)) → AreInOneList n ts → AreInOneList m us
    → AreInOneList k vs → AreInOneList (n + (m + k)) (ts ++ (us ++ vs))
store-strings n m k ts us vs a b c = both n (m + k) ts (us ++ vs) a (both m k us vs b c)
  where
    both : (n m : ℕ) (ts us : List (List ℕ)) → AreInOneList n ts → AreInOneList m us → AreInOneList (n + m) (ts ++ us)
    both n m ts us a b = record {
      bytes = a.bytes ++ b.bytes;
      count = omega (arith, length-append a.bytes b.bytes, a.count, b.count);
      ranges = all-both (a.bytes ++ b.bytes) ts us (all-before a.bytes b.bytes ts a.ranges)
          (all-after a.bytes b.bytes us b.ranges);
    }

-- The number of bytes of replacements.
pub replacements-total : (ts : List (List ℕ)) (bs : List ℕ) → length ts ≡ length bs
    → total length ts ≡ total length (map replacement_bytes (replacements_at ts bs))
replacements-total [] [] h = refl
replacements-total [] (b ∷ bs) h = refl
replacements-total (t ∷ ts) [] h = absurd (let none : ⊥ = omega arith in none)
replacements-total (t ∷ ts) (b ∷ bs) h = ap (λ n. length t + n) (replacements-total ts bs (omega arith))

-- A store holds the bytes of its tokens, occurrences and replacements.
pub holds : (n m k : ℕ) (os : List Occurrence) (ps : List Part) (rs : List Replacement)
    → AreInOneList n (flat_map token_strings (all_tokens ps)) → n ≡ interned_token_bytes (all_tokens ps)
    → AreInOneList m (map occurrence_text os) → m ≡ total length (distinct_strings (map occurrence_text os))
    → AreInOneList k (map replacement_bytes rs) → k ≡ total length (map replacement_bytes rs)
    → HoldsBytes ((m + k) + n) (stored os ps rs)
holds n m k os ps rs a b c d e f =
    let all = store-strings n m k (flat_map token_strings (all_tokens ps)) (map occurrence_text os)
    (map replacement_bytes rs) a c e in
    record {
      strings = record { bytes = all.bytes; count = omega (arith, all.count); ranges = all.ranges };
      once = omega (arith, b, d, f);
    }

-- Interning never needs more bytes.
pub bytes-few : (s : Stored) → interned_store_bytes s ≤ uninterned_store_bytes s
bytes-few s = omega (arith, kept-few (all_tokens s.parts), distinct-bytes (map occurrence_text s.occurrences))

pub map-both : {A B C : Type 0} (f : B → C) (g : A → B) (xs : List A) → map (λ x. f (g x)) xs ≡ map f (map g xs)
map-both f g [] = refl
map-both f g (x ∷ xs) = ap (λ ys. f (g x) ∷ ys) (map-both f g xs)
