-- The law of file names.
use Rattle.cweb_store.proofs.Common.{◌≡◌, ℕ, zero, suc, ◌+◌, Bool, true, false, ◌&&◌, ◌||◌, List, [], ◌∷◌, ◌++◌, Some, None, Option, refl, sym, ◌∙◌, ap, arith, inl, inr, slice_get, list_any, list_any-append, or-false, eqb-true, eq-eqb, NameId, Occurrence, Resolution, id, resolutions, resolved_at, with_file, with_some, files_from, is_id, is_some_id}
use Rattle.std.proofs.Common.{◌⊎◌}
use Rattle.std.proofs.lemmas.Bool.{or_cases, or_left, false_from_ne_true}
use Rattle.cweb_store.specs.laws.Laws.{IsNamedAsFile, AreDistinctIds, FilesAreNamesOfOccurrences}
use Rattle.cweb_store.proofs.NameSetLemmas.{any-with_some}

id_is : (n m : NameId) → is_id n m ≡ true → n ≡ m
id_is n m h = ap id (eqb-true n.0 m.0 h)

some_is : (n : NameId) (o : Option NameId) → is_some_id n o ≡ true → o ≡ Some n
some_is n None h = cc
some_is n (Some m) h = ap Some (sym (id_is n m h))

-- Occurrence `at` of a list that begins at occurrence i names a file.
record FileAt (rs : List Resolution) (i : ℕ) (os : List Occurrence) (n : NameId) : Type 0 where
  pub number : ℕ
  pub occurrence : Occurrence
  pub at : ℕ
  pub there : slice_get os number ≡ Some occurrence
  pub file : occurrence.is_file ≡ true
  pub resolves : resolved_at rs at ≡ Some n
  pub at_is : at ≡ i + number

any-with_file : (rs : List Resolution) (fs : List NameId) (i : ℕ) (o : Occurrence) (n : NameId)
    → list_any (is_id n) (with_file rs fs i o)
    ≡ (list_any (is_id n) fs || (o.is_file && is_some_id n (resolved_at rs i)))
any-with_file rs fs i o n = grind (arith, any-with_some, or-false)

file_here : (rs : List Resolution) (i : ℕ) (o : Occurrence) (os : List Occurrence) (n : NameId) (file : Bool)
    → o.is_file ≡ file → (file && is_some_id n (resolved_at rs i)) ≡ true → FileAt rs i (o ∷ os) n
file_here rs i o os n true e h = record {
  number = 0;
  occurrence = o;
  at = i;
  there = refl;
  file = e;
  resolves = some_is n (resolved_at rs i) h;
  at_is = omega arith;
}
file_here rs i o os n false e h = cc

file_later : {rs : List Resolution} (i : ℕ) (o : Occurrence) {os : List Occurrence} {n : NameId}
    → FileAt rs (i + 1) os n → FileAt rs i (o ∷ os) n
file_later i o f = record {
  number = suc f.number;
  occurrence = f.occurrence;
  at = f.at;
  there = f.there;
  file = f.file;
  resolves = f.resolves;
  at_is = omega (arith, f.at_is);
}

-- Each file name was in the list before, or an occurrence names it.
found : (rs : List Resolution) (fs : List NameId) (i : ℕ) (os : List Occurrence) (n : NameId)
    → list_any (is_id n) (files_from rs fs i os) ≡ true → (list_any (is_id n) fs ≡ true) ⊎ FileAt rs i os n
found rs fs i [] n h = inl h
found rs fs i (o ∷ os) n h =
    grind (arith, or_cases, any-with_file, file_here, file_later, found rs (with_file rs fs i o) (i + 1) os n h)

kept : (rs : List Resolution) (fs : List NameId) (i : ℕ) (os : List Occurrence) (n : NameId)
    → list_any (is_id n) fs ≡ true → list_any (is_id n) (files_from rs fs i os) ≡ true
kept rs fs i [] n h = h
kept rs fs i (o ∷ os) n h = kept rs (with_file rs fs i o) (i + 1) os n (any-with_file rs fs i o n
    ∙ or_left (list_any (is_id n) fs) (o.is_file && is_some_id n (resolved_at rs i)) h)

named : (rs : List Resolution) (fs : List NameId) (i : ℕ) (os : List Occurrence) (n : NameId) (k : ℕ) (x : Occurrence)
    → slice_get os k ≡ Some x → x.is_file ≡ true → resolved_at rs (i + k) ≡ Some n
    → list_any (is_id n) (files_from rs fs i os) ≡ true
named rs fs i [] n k x there file is = cc
named rs fs i (o ∷ os) n zero x there file is = grind (arith, kept, any-with_file, eq-eqb)
named rs fs i (o ∷ os) n (suc k) x there file is =
    named rs (with_file rs fs i o) (i + 1) os n k x there file
    (ap (resolved_at rs) (let e : (i + 1) + k ≡ i + suc k = omega arith in e) ∙ is)

apart : (n m : NameId) → is_id n m ≡ false → is_id m n ≡ false
apart n m h = grind (arith, false_from_ne_true, eq-eqb, eqb-true)

distinct-push : (ns : List NameId) (n : NameId) → AreDistinctIds ns → list_any (is_id n) ns ≡ false
    → AreDistinctIds (ns ++ n ∷ [])
distinct-push [] n d h = (refl, tt)
distinct-push (m ∷ ns) n d h =
    grind (arith, is_id n m, apart n m, d, list_any-append (is_id m) ns (n ∷ []), distinct-push ns n d.1)

distinct-with : (ns : List NameId) (o : Option NameId) → AreDistinctIds ns → AreDistinctIds (with_some ns o)
distinct-with ns None d = d
distinct-with ns (Some n) d = grind (arith, list_any (is_id n) ns, distinct-push ns n d)

distinct-from : (rs : List Resolution) (fs : List NameId) (i : ℕ) (os : List Occurrence) → AreDistinctIds fs
    → AreDistinctIds (files_from rs fs i os)
distinct-from rs fs i [] d = d
distinct-from rs fs i (o ∷ os) d =
    grind (arith, o.is_file, distinct-with fs (resolved_at rs i) d, distinct-from rs (with_file rs fs i o) (i + 1) os)

file_named : (os : List Occurrence) (n : NameId) → FileAt (resolutions os) 0 os n → IsNamedAsFile os n
file_named os n f = grind arith

pub files_are_names_of_occurrences : FilesAreNamesOfOccurrences
files_are_names_of_occurrences = record {
  only = λ os n h. elim (found (resolutions os) [] 0 os n h) [ inl a ↦ cc | inr f ↦ file_named os n f ];
  all = λ os n f. named (resolutions os) [] 0 os n f.number f.occurrence f.there f.file
      (ap (resolved_at (resolutions os)) (let e : 0 + f.number ≡ f.number = omega arith in e) ∙ f.resolves);
  once = λ os. distinct-from (resolutions os) [] 0 os tt;
}
