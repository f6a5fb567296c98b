-- Keys and paths are equal, or they are not.
use Rattle.std.proofs.Common.{◌≡◌, ℕ, List, Bool, true, false, refl}
use Rattle.std.proofs.lemmas.Slice.Eq.{bytes_eq-Decides}
use Rattle.std.specs.Str.{bytes_eq}
use Rattle.cweb_system.specs.declared.node.FileKey.{FileKey}
use Rattle.cweb_system.specs.inner.Written.{key_eq}
use Rattle.cweb_system.proofs.Keys.{key_is}

not_true : (b : Bool) → (b ≡ true → ⊥) → b ≡ false
not_true true no' = absurd (no' refl)
not_true false no' = refl

pub key_apart : (a b : FileKey) → (a ≡ b → ⊥) → key_eq a b ≡ false
key_apart a b apart = not_true (key_eq a b) (λ test. apart (key_is a b test))

pub path_same : (a b : List ℕ) → a ≡ b → bytes_eq a b ≡ true
path_same a b = (bytes_eq-Decides a b).1

pub path_apart : (a b : List ℕ) → (a ≡ b → ⊥) → bytes_eq a b ≡ false
path_apart a b apart = not_true (bytes_eq a b) (λ test. apart ((bytes_eq-Decides a b).0 test))
