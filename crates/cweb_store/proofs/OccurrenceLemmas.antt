-- The names of occurrences, and what they resolve to.
use Rattle.cweb_store.proofs.Common.{◌≡◌, ℕ, ◌+◌, ◌≤◌, Bool, true, false, cond, not, ◌||◌, List, [], ◌∷◌, ◌++◌, length, refl, sym, ap, arith, length-append, append_assoc, append-nil, Err, bytes_eq, list_any, position_or_len, map-append, How, Full, Prefix, NameId, NeverFull, Occurrence, Name, spellings, with_full_name, with_occurrence_name, names_from, names, beginning, the_one, resolved_among, found_of, early, by_found, resolve}
use Rattle.cweb_store.proofs.NameLemmas.{bytes_eq-same}

with_text-few : (i : ℕ) (ns : List Name) (text : List ℕ) → length (with_full_name i ns text) ≤ length ns + 1
with_text-few i ns text = grind (arith, length-append ns)

pub with_name-few : (i : ℕ) (ns : List Name) (o : Occurrence) → length (with_occurrence_name i ns o) ≤ length ns + 1
with_name-few i ns o = grind (arith, with_text-few i ns o.text)

names_from-few : (i : ℕ) (ns : List Name) (os : List Occurrence) → length (names_from i ns os) ≤ length ns + length os
names_from-few i ns [] = omega arith
names_from-few i ns (o ∷ os) = grind (arith, names_from-few (i + 1) (with_occurrence_name i ns o) os, with_name-few)

pub names-few : (os : List Occurrence) → length (names os) ≤ length os
names-few os = omega (arith, names_from-few 0 [] os)

pub record Grows (old new : List Name) : Type 0 where
  pub more : List Name
  pub grows : new ≡ old ++ more

with_text-grows : (i : ℕ) (ns : List Name) (text : List ℕ) → Grows ns (with_full_name i ns text)
with_text-grows i ns text = grind (arith, append-nil)

pub with_name-grows : (i : ℕ) (ns : List Name) (o : Occurrence) → Grows ns (with_occurrence_name i ns o)
with_name-grows i ns o = grind (arith, with_text-grows, append-nil)

pub names_from-grows : (i : ℕ) (ns : List Name) (os : List Occurrence) → Grows ns (names_from i ns os)
names_from-grows i ns [] = record { more = []; grows = sym (append-nil ns) }
names_from-grows i ns (o ∷ os) =
    grind (arith, with_name-grows, names_from-grows (i + 1) (with_occurrence_name i ns o) os, append_assoc)

strings-append : (ns ms : List Name) → spellings (ns ++ ms) ≡ spellings ns ++ spellings ms
strings-append ns ms = map-append (λ (m : Name). m.text) ns ms

position-append : (p : List ℕ → Bool) (xs ys : List (List ℕ))
    → list_any p xs ≡ true → position_or_len p (xs ++ ys) ≡ position_or_len p xs
position-append p [] ys h = cc
position-append p (x ∷ xs) ys h = grind (arith, p x, position-append p xs ys)

any-last : (p : List ℕ → Bool) (xs : List (List ℕ)) (y : List ℕ) → p y ≡ true → list_any p (xs ++ y ∷ []) ≡ true
any-last p [] y h = ap (λ b. b || false) h
any-last p (x ∷ xs) y h = grind (arith, any-last p xs y h, p x)

position-last : (p : List ℕ → Bool) (xs : List (List ℕ)) (y : List ℕ) → p y ≡ true
    → list_any p xs ≡ false → position_or_len p (xs ++ y ∷ []) ≡ position_or_len p xs
position-last p [] y h none = ap (λ b. cond (not b) 1 0) h
position-last p (x ∷ xs) y h none = grind (arith, p x, position-last p xs y h)

pub with_text-has : (i : ℕ) (ns : List Name) (text : List ℕ)
    → list_any (bytes_eq text) (spellings (with_full_name i ns text)) ≡ true
with_text-has i ns text = grind (arith, strings-append, any-last, bytes_eq-same)

with_text-position : (i : ℕ) (ns : List Name) (text : List ℕ)
    → position_or_len (bytes_eq text) (spellings (with_full_name i ns text))
    ≡ position_or_len (bytes_eq text) (spellings ns)
with_text-position i ns text = grind (arith, strings-append, position-last, bytes_eq-same)

pub position-grows : (text : List ℕ) (old new : List Name) → Grows old new
    → list_any (bytes_eq text) (spellings old) ≡ true
    → position_or_len (bytes_eq text) (spellings new) ≡ position_or_len (bytes_eq text) (spellings old)
position-grows text old new g there = grind (arith, strings-append, position-append, there)

by_found-the_one : (ns : List NameId) → by_found (found_of ns) ≡ the_one ns (Err NeverFull)
by_found-the_one [] = refl
by_found-the_one (n ∷ []) = refl
by_found-the_one (n ∷ m ∷ ns) = refl

late-one : (ns : List NameId) (all : List Name) (text : List ℕ)
    → resolve all text (by_found (found_of ns)) ≡ the_one ns (the_one (beginning text all) (Err NeverFull))
late-one [] all text = by_found-the_one (beginning text all)
late-one (n ∷ []) all text = refl
late-one (n ∷ m ∷ ns) all text = refl

pub resolve-one : (i : ℕ) (before : List Name) (os : List Occurrence) (text : List ℕ) (how : How) (is_file : Bool) →
    let o : Occurrence = record { text = text; how = how; is_file = is_file } in
    let all = names_from i before (o ∷ os) in
    resolve all text (early before o) ≡ resolved_among before all o
resolve-one i before os text Full is_file =
    grind (
      arith,
      names_from-grows (i + 1) (with_full_name i before text) os,
      position-grows text (with_full_name i before text) (names_from (i + 1) (with_full_name i before text) os),
      with_text-has i before text,
      with_text-position i before text,
    )
resolve-one i before os text Prefix is_file =
    let o : Occurrence = record { text = text; how = Prefix; is_file = is_file } in
    late-one (beginning text before) (names_from i before (o ∷ os)) text
