-- Equality and order of file keys, and committed files in a tree.
use Rattle.std.specs.Prelude.{◌≡◌, ℕ, List, All, IsSomeAnd, Option, None, string_bytes, ◌&&◌, Bool, nat_eq}
use Rattle.cweb_system.specs.Tree.{FileKey, Tree, at, IsFile}
use Rattle.cweb_system.specs.declared.written.WrittenFile.{WrittenFile}
use Rattle.cweb_system.specs.Steps.{Disk, OnDisk}
use Rattle.std.specs.List.{list_any}
use Rattle.std.specs.BTreeMap.{is_at}
use Rattle.std.specs.Ordering.{nat_cmp, ordering_then}
use Rattle.std.specs.declared.cmp.Ordering.{Ordering}

abbrev pub key_eq : FileKey → FileKey → Bool
key_eq a b = nat_eq a.device b.device && nat_eq a.number b.number

-- File keys are ordered by device, then by inode number.
abbrev pub compare_keys : FileKey → FileKey → Ordering
compare_keys a b = ordering_then (nat_cmp a.device b.device) (nat_cmp a.number b.number)

abbrev pub is_among : List FileKey → FileKey → Bool
is_among keys key = list_any (is_at (compare_keys key)) keys

-- Each file that was committed is there, under its name.
abbrev pub FilesAreThere : Tree → List WrittenFile → Type 0
FilesAreThere tree written = All (λ (w : WrittenFile). IsFile w.key (at tree (string_bytes w.name))) written

-- They are there in an observable file system.
abbrev pub HasFiles : {F : Type 0} → Option (F → Disk) → F → List WrittenFile → Type 0
HasFiles disk fs written = OnDisk disk (λ see. FilesAreThere (see fs).tree written)

-- No committed file has this key, but for one of this name.
abbrev pub IsNewBut : Option (List ℕ) → FileKey → List WrittenFile → Type 0
IsNewBut but key written =
    All (λ (w : WrittenFile). w.key ≡ key → IsSomeAnd but (λ name. string_bytes w.name ≡ name)) written

-- No committed file has this key.
abbrev pub IsNew : FileKey → List WrittenFile → Type 0
IsNew key written = IsNewBut None key written

-- No committed file has this name.
abbrev pub IsUnnamed : List ℕ → List WrittenFile → Type 0
IsUnnamed name written = All (λ (w : WrittenFile). string_bytes w.name ≡ name → ⊥) written

-- The committed files are left alone.
pub record Leaves (written : List WrittenFile) (old new : Tree) : Type 0 where
  pub place : new.place ≡ old.place
  pub entries : All (λ (w : WrittenFile). IsFile w.key (at old (string_bytes w.name))
      → IsFile w.key (at new (string_bytes w.name))) written
  pub bytes : All (λ (w : WrittenFile). new.bytes w.key ≡ old.bytes w.key) written

-- The file of this key is put in place under a name. Committed files of other names are left alone.
pub record Places (name : List ℕ) (key : FileKey) (written : List WrittenFile) (old new : Tree) : Type 0 where
  pub there : IsFile key (at new name)
  pub entries : All (λ (w : WrittenFile). (string_bytes w.name ≡ name → ⊥)
      → IsFile w.key (at new (string_bytes w.name))) written
  pub bytes : new.bytes ≡ old.bytes
