-- A scan of facts.
use Rattle.std.proofs.Common.{◌≡◌, ◌∙◌, ◌<◌, ◌≤◌, ◌+◌, ℕ, List, ◌∷◌, Bool, true, false, cond, sym, ap, string_bytes, Some, None, drop, length, get_or}
use Rattle.std.proofs.lemmas.List.{drop_more, drop_all}
use Rattle.std.specs.Str.{bytes_eq}
use Rattle.cweb_system_tests.specs.declared.memory_folder.layout.Fact.{Fact}
use Rattle.cweb_system_tests.specs.inner.Layout.{value_of}

-- The next fact of a scan.
value_next : {V : Type 0} (facts : List (Fact V)) (i : ℕ) (fact : Fact V) (path : List ℕ) (b : Bool) → i < length facts
    → fact ≡ get_or facts i fact → bytes_eq (string_bytes fact.path) path ≡ b
    → value_of (drop i facts) path ≡ cond b (Some fact.value) (value_of (drop (i + 1) facts) path)
value_next {V} facts i fact path b within is test =
    ap (λ (l : List (Fact V)). value_of l path) (drop_more facts i fact within)
    ∙ ap (λ (f : Fact V). value_of (f ∷ drop (i + 1) facts) path) (sym is)
    ∙ ap (λ (c : Bool). cond c (Some fact.value) (value_of (drop (i + 1) facts) path)) test

pub value_found : {V : Type 0} (facts : List (Fact V)) (i : ℕ) (fact : Fact V) (path : List ℕ) → i < length facts
    → fact ≡ get_or facts i fact → bytes_eq (string_bytes fact.path) path ≡ true
    → value_of (drop i facts) path ≡ Some fact.value
value_found facts i fact path within is test = value_next facts i fact path true within is test

pub value_passed : {V : Type 0} (facts : List (Fact V)) (i : ℕ) (fact : Fact V) (path : List ℕ) → i < length facts
    → fact ≡ get_or facts i fact → bytes_eq (string_bytes fact.path) path ≡ false
    → value_of (drop i facts) path ≡ value_of (drop (i + 1) facts) path
value_passed facts i fact path within is test = value_next facts i fact path false within is test
