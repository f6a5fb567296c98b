-- Faults of names, one by one.
use Rattle.cweb_store.proofs.Common.{◌≡◌, ℕ, zero, suc, ◌+◌, ◌<◌, Bool, false, List, [], ◌∷◌, ◌++◌, Some, map, length, drop, refl, arith, append_assoc, slice_get, option_map, list_any, NameId, NameKind, NameFault, Name, id, spellings, fault_of_name, unresolved_fault, Resolution, filter, filter_map, if◌then◌else◌}
use Rattle.cweb_store.proofs.NameLemmas.{prefix_at}
use Rattle.std.specs.List.{enumerate_from}

-- The faults of resolutions that begin at occurrence i.
abbrev pub unresolved_faults_from : ℕ → List Resolution → List NameFault
unresolved_faults_from i rs = filter_map (λ (p : ℕ × Resolution). unresolved_fault p.0 p.1) (enumerate_from i rs)

-- A fault for each failing name, at its first full occurrence. The first name of the list has number n.
abbrev pub faults_from : ℕ → NameKind → (NameId → List ℕ → Bool) → List Name → List NameFault
faults_from n kind fails names =
    map (λ (p : ℕ × Name). fault_of_name kind p.1.first)
    (filter (λ (p : ℕ × Name). fails (id p.0) p.1.text) (enumerate_from n names))

pub faults-none : (kind : NameKind) (fails : List ℕ → Bool) (i : ℕ) (ns : List Name)
    → list_any fails (spellings ns) ≡ false → faults_from i kind (λ n text. fails text) ns ≡ []
faults-none kind fails i [] h = refl
faults-none kind fails i (n ∷ ns) h = grind (arith, faults-none kind fails (i + 1) ns)

-- The faults from a name on are its own and those from the next one on.
pub faults-step : (kind : NameKind) (fails : NameId → List ℕ → Bool) (ns : List Name) (i : ℕ) (b : Bool) (first : ℕ)
    (old new : List NameFault) → i < length ns → option_map (λ (n : Name). fails (id i) n.text) (slice_get ns i)
    ≡ Some b → option_map (λ (n : Name). n.first) (slice_get ns i) ≡ Some first
    → new ≡ old ++ (if b then fault_of_name kind first ∷ [] else [])
    → new ++ faults_from (i + 1) kind fails (drop (i + 1) ns) ≡ old ++ faults_from i kind fails (drop i ns)
faults-step kind fails ns i b first old new h test there step =
    grind (arith, prefix_at ns i h, fails (id i), append_assoc old)

pub first-at : (ns : List Name) (i f : ℕ) → slice_get (map (λ (n : Name). n.first) ns) i ≡ Some f
    → option_map (λ (n : Name). n.first) (slice_get ns i) ≡ Some f
first-at [] i f h = cc
first-at (n ∷ ns) zero f h = h
first-at (n ∷ ns) (suc i) f h = first-at ns i f h
