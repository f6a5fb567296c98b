-- Indices of names, files and faults are in range.
use Rattle.cweb_store.proofs.Common.{AreWithin, ◌≡◌, ℕ, zero, suc, ◌+◌, ◌≤◌, ◌<◌, Bool, List, [], ◌∷◌, ◌++◌, Some, None, Option, length, refl, ap, arith, length-append, Ok, Err, IfSome, All, bytes_eq, AllByRecursion, length-map, All-from_recursion, How, Full, Prefix, NameId, NameFault, NameKind, Occurrence, Name, Resolution, spellings, with_full_name, with_occurrence_name, names_from, names, beginning_from, the_one, resolved_among, resolutions_from, resolutions, resolved_at, with_some, with_file, files_from, files, Part, faults}
use Rattle.cweb_store.proofs.NameLemmas.{position-below}
use Rattle.cweb_store.proofs.OccurrenceLemmas.{Grows, names_from-grows, with_text-has}
use Rattle.cweb_store.proofs.LawLemmas.{any-grows}
use Rattle.cweb_store.proofs.FaultLemmas.{unresolved_faults_from, faults_from}

abbrev Below : ℕ → NameId → Type 0
Below n m = m.0 < n

abbrev StoredBelow : ℕ → Resolution → Type 0
StoredBelow n (Ok m) = m.0 < n
StoredBelow n (Err kind) = Unit {0}

all-both : {X : Type 0} (P : X → Type 0) (xs ys : List X)
    → AllByRecursion P xs → AllByRecursion P ys → AllByRecursion P (xs ++ ys)
all-both P [] ys a b = b
all-both P (x ∷ xs) ys a b = (a.0, all-both P xs ys a.1 b)

grows-length : (old new : List Name) → Grows old new → length old ≤ length new
grows-length old new g = omega (arith, ap length g.grows, length-append old g.more)

beginning-below : (i n : ℕ) (p : List ℕ) (ns : List Name)
    → i + length ns ≤ n → AllByRecursion (Below n) (beginning_from i p ns)
beginning-below i n p [] h = tt
beginning-below i n p (m ∷ ns) h = grind (arith, beginning-below (i + 1) n p ns (omega arith), Below n)

the_one-below : (n : ℕ) (ns : List NameId) (otherwise : Resolution) → AllByRecursion (Below n) ns
    → StoredBelow n otherwise → StoredBelow n (the_one ns otherwise)
the_one-below n [] otherwise h o = o
the_one-below n (m ∷ []) otherwise h o = h.0
the_one-below n (m ∷ k ∷ ns) otherwise h o = tt

among-below : (i : ℕ) (before : List Name) (text : List ℕ) (how : How) (is_file : Bool) (all : List Name) →
    let o : Occurrence = record { text = text; how = how; is_file = is_file } in
    Grows (with_occurrence_name i before o) all → StoredBelow (length all) (resolved_among before all o)
among-below i before text Full is_file all g =
    grind (
      arith,
      length-map all (λ (n : Name). n.text),
      position-below (bytes_eq text) (spellings all),
      any-grows (bytes_eq text) (with_full_name i before text) all g (with_text-has i before text),
    )
among-below i before text Prefix is_file all g = grind (arith, the_one-below, beginning-below, grows-length)

resolutions-below : (i : ℕ) (before : List Name) (os : List Occurrence)
    → let all = names_from i before os in AllByRecursion (StoredBelow (length all)) (resolutions_from i before all os)
resolutions-below i before [] = tt
resolutions-below i before (o ∷ os) =
    grind (
      arith,
      among-below i before o.text o.how o.is_file (names_from (i + 1) (with_occurrence_name i before o) os)
          (names_from-grows (i + 1) (with_occurrence_name i before o) os),
      names_from-grows (i + 1) (with_occurrence_name i before o) os,
      resolutions-below (i + 1) (with_occurrence_name i before o) os,
    )

stored-below : (n : ℕ) (rs : List Resolution) (i : ℕ) → AllByRecursion (StoredBelow n) rs
    → IfSome (resolved_at rs i) (Below n)
stored-below n [] i h = tt
stored-below n (Ok m ∷ rs) zero h = h.0
stored-below n (Err kind ∷ rs) zero h = tt
stored-below n (r ∷ rs) (suc i) h = stored-below n rs i h.1

with_some-below : (n : ℕ) (ns : List NameId) (o : Option NameId) → AllByRecursion (Below n) ns
    → IfSome o (Below n) → AllByRecursion (Below n) (with_some ns o)
with_some-below n ns None h o = h
with_some-below n ns (Some m) h o = grind (arith, Below n, all-both (Below n) ns (m ∷ []) h (o, tt))

files-below : (n : ℕ) (rs : List Resolution) (fs : List NameId) (i : ℕ) (os : List Occurrence)
    → AllByRecursion (StoredBelow n) rs → AllByRecursion (Below n) fs → AllByRecursion (Below n) (files_from rs fs i os)
files-below n rs fs i [] h g = g
files-below n rs fs i (o ∷ os) h g =
    grind (
      arith,
      files-below n rs (with_file rs fs i o) (i + 1) os h,
      with_some-below n fs (resolved_at rs i) g (stored-below n rs i h),
    )

abbrev At : ℕ → NameFault → Type 0
At n f = f.occurrence.0 < n

standing_faults-below : (n i : ℕ) (rs : List Resolution) → i + length rs ≤ n
    → AllByRecursion (At n) (unresolved_faults_from i rs)
standing_faults-below n i [] h = tt
standing_faults-below n i (Ok m ∷ rs) h = standing_faults-below n (i + 1) rs (omega arith)
standing_faults-below n i (Err kind ∷ rs) h = (omega arith, standing_faults-below n (i + 1) rs (omega arith))

abbrev First : ℕ → Name → Type 0
First n m = m.first < n

name_faults-below : (n i : ℕ) (kind : NameKind) (fails : NameId → List ℕ → Bool) (ns : List Name)
    → AllByRecursion (First n) ns → AllByRecursion (At n) (faults_from i kind fails ns)
name_faults-below n i kind fails [] h = tt
name_faults-below n i kind fails (m ∷ ns) h = grind (arith, name_faults-below n (i + 1) kind fails ns h.1, At n)

with_text-first : (n i : ℕ) (ns : List Name) (text : List ℕ) → i < n
    → AllByRecursion (First n) ns → AllByRecursion (First n) (with_full_name i ns text)
with_text-first n i ns text less h = grind (arith, First n, all-both (First n) ns)

with_name-first : (n i : ℕ) (ns : List Name) (text : List ℕ) (how : How) (is_file : Bool)
    → i < n → AllByRecursion (First n) ns →
    AllByRecursion (First n) (with_occurrence_name i ns (record { text = text; how = how; is_file = is_file }))
with_name-first n i ns text Full is_file less h = with_text-first n i ns text less h
with_name-first n i ns text Prefix is_file less h = h

names-first : (n i : ℕ) (ns : List Name) (os : List Occurrence) → AllByRecursion (First n) ns
    → i + length os ≤ n → AllByRecursion (First n) (names_from i ns os)
names-first n i ns [] h le = h
names-first n i ns (o ∷ os) h le = names-first n
    (i + 1) (with_occurrence_name i ns o) os (with_name-first n i ns o.text o.how o.is_file (omega arith) h)
    (omega arith)

pub resolutions-length : (i : ℕ) (before all : List Name) (os : List Occurrence)
    → length (resolutions_from i before all os) ≡ length os
resolutions-length i before all [] = refl
resolutions-length i before all (o ∷ os) =
    omega (arith, resolutions-length (i + 1) (with_occurrence_name i before o) all os)

-- Each resolution is one of the names.
pub standing-within : (os : List Occurrence) (i : ℕ)
    → IfSome (resolved_at (resolutions os) i) (λ (n : NameId). n.0 < length (names os))
standing-within os i = stored-below (length (names os)) (resolutions os) i (resolutions-below 0 [] os)

pub files-within : (os : List Occurrence) → All (λ (n : NameId). n.0 < length (names os)) (files os)
files-within os = All-from_recursion (Below (length (names os)))
    (files os) (files-below (length (names os)) (resolutions os) [] 0 os (resolutions-below 0 [] os) tt)

-- The occurrence of each fault exists.
pub faults-within : (os : List Occurrence) (ps : List Part)
    → All (λ (f : NameFault). f.occurrence.0 < length os) (faults os ps)
faults-within os ps =
    grind (
      arith,
      names-first,
      standing_faults-below,
      resolutions-length 0,
      name_faults-below,
      All-from_recursion,
      At,
      all-both,
    )

-- All resolved names are known.
pub resolutions-within : (os : List Occurrence) (rs : List Resolution) (n : ℕ)
    → rs ≡ resolutions os → n ≡ length (names os) → AreWithin rs n
resolutions-within os rs n is size = rw (is, size) (standing-within os)
