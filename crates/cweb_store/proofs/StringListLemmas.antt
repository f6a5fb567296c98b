-- Appending strings to a list.
use Rattle.cweb_store.proofs.Common.{get_or, sym, Edge, IsStringList, ◌≡◌, ℕ, zero, suc, ◌+◌, ◌≤◌, ◌<◌, List, [], ◌∷◌, ◌++◌, Some, length, take, drop, refl, ◌∙◌, ap, arith, length-append, length-drop, slice_get, slice_range, slice_index_or, drop-append-le, take-append-le, drop-append_seam, take-length, length-take-le, strings_from, AreEnds, IsFromStart, string_start, text_bytes, string_at}

pub ends-le : (n all : ℕ) (ends : List ℕ) → AreEnds n ends all → n ≤ all
ends-le n all [] h = omega arith
ends-le n all (e ∷ es) h = omega (arith, h.0, ends-le e all es h.1)

pub range-grow : (bytes more : List ℕ) (i j : ℕ) → i ≤ j → j ≤ length bytes
    → slice_range (bytes ++ more) i j ≡ slice_range bytes i j
range-grow bytes more i j le within = grind (arith, drop-append-le, more, take-append-le, length-drop)

range-end : (bytes string : List ℕ) → slice_range (bytes ++ string) (length bytes) (length (bytes ++ string)) ≡ string
range-end bytes string = grind (arith, drop-append_seam bytes string, length-append bytes string, take-length string)

pub strings-push : (bytes string : List ℕ) (n : ℕ) (ends : List ℕ) → AreEnds n ends (length bytes)
    → strings_from (bytes ++ string) n (ends ++ length (bytes ++ string) ∷ []) ≡ strings_from bytes n ends ++ string
    ∷ []
strings-push bytes string n [] h = cc (range-end bytes string)
strings-push bytes string n (e ∷ es) h = grind (arith, range-grow, ends-le, strings-push bytes string e es h.1)

pub ends-push : (n all more : ℕ) (ends : List ℕ) → AreEnds n ends all → all ≤ more → AreEnds n (ends ++ more ∷ []) more
ends-push n all more [] h le = (omega arith, refl)
ends-push n all more (e ∷ es) h le = (h.0, ends-push e all more es h.1 le)

pub strings-count : (bytes : List ℕ) (n : ℕ) (ends : List ℕ) → length (strings_from bytes n ends) ≡ length ends
strings-count bytes n [] = refl
strings-count bytes n (e ∷ es) = omega (arith, strings-count bytes e es)

pub strings-at : (bytes : List ℕ) (n : ℕ) (ends : List ℕ) (k d : ℕ) → k < length ends
    → slice_get (strings_from bytes n ends) k
    ≡ Some (slice_range bytes (string_start n ends k) (slice_index_or ends k d))
strings-at bytes n [] k d h = absurd (let none : ⊥ = omega arith in none)
strings-at bytes n (e ∷ es) zero d h = refl
strings-at bytes n (e ∷ es) (suc k) d h = strings-at bytes e es k d (omega arith)

pub ends-at : (n all : ℕ) (ends : List ℕ) (k d : ℕ) → AreEnds n ends all → k < length ends
    → (string_start n ends k ≤ slice_index_or ends k d) × (slice_index_or ends k d ≤ all)
ends-at n all [] k d tied h = absurd (let none : ⊥ = omega arith in none)
ends-at n all (e ∷ es) zero d tied h = (tied.0, ends-le e all es tied.1)
ends-at n all (e ∷ es) (suc k) d tied h = ends-at e all es k d tied.1 (omega arith)

limit-begin : (n : ℕ) (ends : List ℕ) (k d : ℕ) → k < length ends
    → slice_index_or (n ∷ ends) k d ≡ string_start n ends k
limit-begin n [] k d h = absurd (let none : ⊥ = omega arith in none)
limit-begin n (e ∷ es) zero d h = refl
limit-begin n (e ∷ es) (suc k) d h = limit-begin e es k d (omega arith)

-- A string begins at the offset with its number, and ends at the next one.
pub offsets-begin : (offsets : List ℕ) (k d : ℕ) → IsFromStart offsets → k < length (drop 1 offsets)
    → slice_index_or offsets k d ≡ string_start 0 (drop 1 offsets) k
offsets-begin [] k d start h = absurd (let none : ⊥ = omega arith in none)
offsets-begin (n ∷ ends) k d start h = limit-begin n ends k d h ∙ ap (λ m. string_start m ends k) start

pub offsets-end : (offsets : List ℕ) (k m d : ℕ) → m ≡ suc k
    → slice_index_or offsets m d ≡ slice_index_or (drop 1 offsets) k d
offsets-end [] k m d is = refl
offsets-end (n ∷ ends) k m d is = ap (λ i. slice_index_or (n ∷ ends) i d) is

pub offsets-length : (offsets : List ℕ) (k : ℕ) → k < length (drop 1 offsets)
    → length offsets ≡ suc (length (drop 1 offsets))
offsets-length [] k h = absurd (let none : ⊥ = omega arith in none)
offsets-length (n ∷ ends) k h = refl

-- The offsets around string n, and the string between them.
pub record IsPlace (bytes offsets : List ℕ) (n : ℕ) : Type 0 where
  pub next : n + 1 < length offsets
  pub rises : get_or offsets n 0 ≤ get_or offsets (n + 1) 0
  pub within : get_or offsets (n + 1) 0 ≤ length bytes
  pub string : slice_get (strings_from bytes 0 (drop 1 offsets)) n
      ≡ Some (slice_range bytes (get_or offsets n 0) (get_or offsets (n + 1) 0))

pub place_is : (bytes offsets : List ℕ) (edges : List Edge) (n : ℕ) → IsStringList bytes offsets edges
    → n < length (strings_from bytes 0 (drop 1 offsets)) → IsPlace bytes offsets n
place_is bytes offsets edges n all less =
    let ends = drop 1 offsets in
    let within : n < length ends = omega (arith, less, strings-count bytes 0 ends) in
    let begins = offsets-begin offsets n 0 all.start within in
    let stops = offsets-end offsets n (n + 1) 0 (omega arith) in
    let both = ends-at 0 (length bytes) ends n 0 all.ends_at within in
    record {
      next = omega (arith, within, offsets-length offsets n within);
      rises = omega (arith, begins, stops, both.0);
      within = omega (arith, stops, both.1);
      string = strings-at bytes 0 ends n 0 within ∙ (λ i. Some (slice_range bytes (sym begins i) (sym stops i)));
    }

-- One more end, if the first string has a start.
pub offsets-push : (offsets : List ℕ) (end : ℕ) → 0 < length offsets
    → drop 1 (offsets ++ end ∷ []) ≡ drop 1 offsets ++ end ∷ []
offsets-push [] end h = absurd (let none : ⊥ = omega arith in none)
offsets-push (n ∷ ends) end h = refl

pub start-push : (offsets : List ℕ) (end : ℕ) → 0 < length offsets → IsFromStart offsets
    → IsFromStart (offsets ++ end ∷ [])
start-push [] end h start = absurd (let none : ⊥ = omega arith in none)
start-push (n ∷ ends) end h start = start

pub offsets-take : (count : ℕ) (offsets : List ℕ) → drop 1 (take (suc count) offsets) ≡ take count (drop 1 offsets)
offsets-take zero [] = refl
offsets-take (suc count) [] = refl
offsets-take count (n ∷ ends) = refl

pub start-take : (count : ℕ) (offsets : List ℕ) → IsFromStart offsets → IsFromStart (take (suc count) offsets)
start-take count [] start = tt
start-take count (n ∷ ends) start = start

bytes-from : (bytes : List ℕ) (n : ℕ) (ends : List ℕ) → AreEnds n ends (length bytes)
    → length (text_bytes (strings_from bytes n ends)) + n ≡ length bytes
bytes-from bytes n [] h = omega (arith, h)
bytes-from bytes n (e ∷ es) h =
    grind (arith, length-take-le, length-drop, ends-le, length-append, bytes-from bytes e es h.1)

pub bytes-count : (bytes : List ℕ) (ends : List ℕ) → AreEnds 0 ends (length bytes)
    → length bytes ≡ length (text_bytes (strings_from bytes 0 ends))
bytes-count bytes ends h = omega (arith, bytes-from bytes 0 ends h)

-- One more string at the end.
pub get-grow : (strings more : List (List ℕ)) (n : ℕ) (t : List ℕ)
    → slice_get strings n ≡ Some t → slice_get (strings ++ more) n ≡ Some t
get-grow [] more n t h = cc
get-grow (x ∷ strings) more zero t h = h
get-grow (x ∷ strings) more (suc n) t h = get-grow strings more n t h

pub get-last : (strings : List (List ℕ)) (t : List ℕ) (n : ℕ) → n ≡ length strings
    → slice_get (strings ++ t ∷ []) n ≡ Some t
get-last [] t zero h = refl
get-last [] t (suc n) h = absurd (let none : ⊥ = omega arith in none)
get-last (x ∷ strings) t zero h = absurd (let none : ⊥ = omega arith in none)
get-last (x ∷ strings) t (suc n) h = get-last strings t n (omega arith)

pub dropped-last : (strings : List (List ℕ)) (t : List ℕ) → take (length strings) (strings ++ t ∷ []) ≡ strings
dropped-last [] t = refl
dropped-last (x ∷ strings) t = ap (λ ts. x ∷ ts) (dropped-last strings t)

pub get-string : (strings : List (List ℕ)) (n : ℕ) (t : List ℕ) → slice_get strings n ≡ Some t → string_at strings n ≡ t
get-string [] n t h = cc
get-string (x ∷ strings) zero t h = let same : x ≡ t = cc in same
get-string (x ∷ strings) (suc n) t h = get-string strings n t h
