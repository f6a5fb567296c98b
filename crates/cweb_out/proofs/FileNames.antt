-- There is at most one output more than names.
use Rattle.cweb_out.proofs.Common.{◌≡◌, ◌≤◌, ◌<◌, ◌+◌, ℕ, suc, Bool, true, false, List, [], ◌∷◌, arith, length, Option, Some, None, inl, inr, All, list_any, length-map, NameId, is_id, Stored, names, file_outputs, outputs, AreNew, or_cases}
use Rattle.std.specs.Prelude.{if◌then◌else◌}
use Rattle.cweb_store.specs.Names.{Occurrence, Resolution, with_id, with_file, resolved_at}
use Rattle.cweb_store.specs.inner.Known.{files_from}
use Rattle.cweb_store.proofs.Terms.{with_some}
use Rattle.cweb_store.specs.Names as spec
use Rattle.cweb_store.proofs.BoundLemmas.{files-within}
use Rattle.cweb_out.proofs.Paths.{new-push, is-same}
use Rattle.cweb_out.proofs.Ranks.{few}
use Rattle.cweb_store.proofs.TokenStringLemmas.{filter-few}

with_id-new : (ns : List NameId) (n : NameId) → AreNew [] ns → AreNew [] (with_id ns n)
with_id-new ns n a = grind (arith, list_any (is_id n) ns, new-push)

with_some-new : (ns : List NameId) (o : Option NameId) → AreNew [] ns → AreNew [] (with_some ns o)
with_some-new ns None a = a
with_some-new ns (Some n) a = with_id-new ns n a

with_file-new : (rs : List Resolution) (ns : List NameId) (i : ℕ) (b : Bool)
    → AreNew [] ns → AreNew [] (if b then with_some ns (resolved_at rs i) else ns)
with_file-new rs ns i true a = with_some-new ns (resolved_at rs i) a
with_file-new rs ns i false a = a

files_from-new : (rs : List Resolution) (ns : List NameId) (i : ℕ) (os : List Occurrence)
    → AreNew [] ns → AreNew [] (files_from rs ns i os)
files_from-new rs ns i [] a = a
files_from-new rs ns i (o ∷ os) a =
    files_from-new rs (with_file rs ns i o) (i + 1) os (with_file-new rs ns i o.is_file a)

-- An element of a list whose elements all pass.
at-any : (count : ℕ) (ns : List NameId) (n : NameId)
    → All (λ (m : NameId). m.0 < count) ns → list_any (is_id n) ns ≡ true → n.0 < count
at-any count [] n a h = cc
at-any count (m ∷ ns) n a h = elim (or_cases (is_id n m) (list_any (is_id n) ns) h) [
  | inl e ↦ rw (is-same n m e) (a 0 m (omega arith))
  | inr e ↦ at-any count ns n (λ k d l. a (suc k) d (omega (arith, l))) e
]

pub outputs-few : (w : Stored) → length (outputs w) ≤ names w + 1
outputs-few w =
    let files = spec.files w.occurrences in
    let le = few (names w) files (files_from-new (spec.resolutions w.occurrences) [] 0 w.occurrences tt)
    (λ n h. at-any (names w) files n (files-within w.occurrences) h) in
    let part = filter-few (Rattle.cweb_store.specs.Faults.has_part (spec.resolutions w.occurrences) w.parts) files in
    omega (arith, le, part, length-map (file_outputs w) (λ n. Some n))
