-- Keys are equal, or they are not. A fault that can be no other is want of memory.
use Rattle.std.proofs.Common.{arith, ◌≡◌, true, refl}
use Rattle.std.proofs.lemmas.Bool.{and_from, and_parts, eq-eqb, eqb-true}
use Rattle.cweb_system.specs.declared.node.FileKey.{FileKey}
use Rattle.cweb_system.specs.inner.Written.{key_eq}
use Rattle.cweb_system.specs.declared.node.FileFault.{FileFault}
use Rattle.cweb_system.specs.declared.node.FileFault.TheVariants.{Memory, NotFound, Denied, Other}

pub key_self : (k : FileKey) → key_eq k k ≡ true
key_self k = grind (arith, and_from, eq-eqb)

pub key_is : (a b : FileKey) → key_eq a b ≡ true → a ≡ b
key_is a b test = grind (arith, and_parts, eqb-true)

-- A fault that can't be another one is want of memory.
pub is_memory : (fault : FileFault) → ((fault ≡ Memory → ⊥) → ⊥) → fault ≡ Memory
is_memory Memory no_other = refl
is_memory NotFound no_other = absurd (no_other (λ e. cc))
is_memory Denied no_other = absurd (no_other (λ e. cc))
is_memory Other no_other = absurd (no_other (λ e. cc))
