-- Drafts in a tree, and what the calls for them do.
use Rattle.std.specs.Prelude.{◌≡◌, ◌<◌, ◌⊎◌, ℕ, List, [], ◌∷◌, ◌++◌, Bool, Contains, IfErr, IfOk, IfSome, IsTrue, OnErr, Option, Result, Some, None, ⊤, false, string_bytes, vec_len, vec_capacity}
use Rattle.cweb_system.specs.declared.drafts.path.Draft.{Draft}
use Rattle.cweb_system.specs.declared.node.FileFault.{FileFault}
use Rattle.cweb_system.specs.declared.node.FileKey.{FileKey}
use Rattle.cweb_system.specs.declared.node.Node.{Node}
use Rattle.cweb_system.specs.declared.run_files.RunFiles.{RunFiles}
use Rattle.cweb_system.specs.declared.written.WrittenFile.{WrittenFile}
use Rattle.cweb_system.specs.Steps.{keys_in, AreDecent, Disk, IsDraftPlace, OnDisk}
use Rattle.cweb_system.specs.Tree.{Tree, at, IsFile, Removes}
use Rattle.cweb_system.specs.inner.Written.{is_among}
use Rattle.cweb_system.specs.inner.Written.{HasFiles, IsNew, IsNewBut, IsUnnamed, Leaves}

-- A file is only under drafts' paths.
abbrev pub IsDraftAlone : FileKey → Tree → Type 0
IsDraftAlone key tree = (p : List ℕ) → IsFile key (tree.node p) → IsDraftPlace tree p

-- Calls whose steps are decent. No failure is forgotten.
pub record KeepsDecent {F : Type 0} (disk : Option (F → Disk)) (read : List FileKey) (old new : F) : Type 0 where
  pub steps : OnDisk disk (λ see. AreDecent read (see old).tree (see old).past
      → AreDecent read (see new).tree (see new).past)
  pub failed : OnDisk disk (λ see. IsTrue (see old).failed → IsTrue (see new).failed)

-- Calls whose steps are decent and leave the committed files alone.
pub record LeavesFiles {F : Type 0} (disk : Option (F → Disk)) (files : RunFiles) (old new : F) : Type 0 where
  pub decent : KeepsDecent disk (keys_in files.read) old new
  pub leaves : OnDisk disk (λ see. Leaves files.written.items (see old).tree (see new).tree)

-- A file has one name.
abbrev pub IsAlone : FileKey → List ℕ → Tree → Type 0
IsAlone key path tree = (p : List ℕ) → IsFile key (tree.node p) → p ≡ tree.place path

-- A draft was begun.
pub record Begins (path : List ℕ) (key found : FileKey) (written : List WrittenFile) (tree : Tree) : Type 0 where
  pub alone : IsAlone key path tree
  pub opened : found ≡ key
  pub there : IsFile key (at tree path)
  pub new : IsNew key written
  pub empty : tree.bytes key ≡ []

-- The draft is there, under its own name, and is no committed file.
pub record DraftIsThere {H : Type 0} (key : H → FileKey) (written : List WrittenFile) (draft : Draft H) (tree : Tree)
    : Type 0 where
  pub file : draft.is_device ≡ false
  pub opened : key draft.file ≡ draft.key
  pub there : IsFile draft.key (at tree (string_bytes draft.path))
  pub new : IsNew draft.key written
  pub alone : IsAlone draft.key (string_bytes draft.path) tree

-- The committed files and the draft are there, as far as contracts know.
pub record HasDraft {F H : Type 0} (disk : Option (F → Disk)) (key : H → FileKey) (run : RunFiles) (begun : Draft H)
    (fs : F) : Type 0 where
  pub files : HasFiles disk fs run.written.items
  pub draft : OnDisk disk (λ see. DraftIsThere key run.written.items begun (see fs).tree)

-- The file of a draft can be recorded when it is committed.
abbrev pub CanPut : RunFiles → FileKey → Type 0
CanPut files key = (vec_len files.written < vec_capacity files.written) × IsTrue (is_among (keys_in files.created) key)

-- The committed files and the draft are where the run has put them.
pub record IsSound {F H : Type 0} (disk : Option (F → Disk)) (key : H → FileKey) (run : RunFiles)
    (begun : Option (Draft H)) (fs : F) : Type 0 where
  pub files : HasFiles disk fs run.written.items
  -- The draft is where it was begun, and its file can be recorded.
  pub draft : IfSome begun (λ draft. CanPut run draft.key
      × OnDisk disk (λ see. DraftIsThere key run.written.items draft (see fs).tree))

-- No file that was read is under a path.
abbrev pub IsUnread : List FileKey → List ℕ → Tree → Type 0
IsUnread read path tree = (found : FileKey) → Contains read found → IsFile found (at tree path) → ⊥

-- A name is no other spelling of a committed file's name, and not the draft itself. A file that was read isn't there.
pub record IsApart (name : List ℕ) (key : FileKey) (files : RunFiles) (tree : Tree) : Type 0 where
  pub own : IsFile key (at tree name) → ⊥
  pub unread : IsUnread (keys_in files.read) name tree
  pub others : (found : FileKey) → IsFile found (at tree name) → IsNewBut (Some name) found files.written.items

-- The entry under a path is removed in a decent step, or nothing changes.
pub record Clears {F : Type 0} (disk : Option (F → Disk)) (path : List ℕ) (old new : F) : Type 0 where
  pub decent : (read : List FileKey) → KeepsDecent disk read old new
  pub place : OnDisk disk (λ see. (see new).tree.place ≡ (see old).tree.place)
  pub removes : OnDisk disk (λ see. Removes path (see old).tree (see new).tree ⊎ ((see new).tree ≡ (see old).tree))

-- What is at `path` now has this key and the permissions of the file that was under `name`.
abbrev pub KeepsMode : List ℕ → List ℕ → FileKey → Tree → Tree → Type 0
KeepsMode name path key old new = (replaced : FileKey) (mode : ℕ)
    → at old name ≡ Some (Node.File replaced mode) → at new path ≡ Some (Node.File key mode)

-- A draft's path can be cleared: nothing is there, or a file that the run has neither read nor written.
abbrev pub IsClearable : RunFiles → Option Node → Type 0
IsClearable files None = ⊤
IsClearable files (Some (Node.File key mode)) = (Contains (keys_in files.read) key → ⊥) × IsNew key files.written.items
IsClearable files (Some _) = ⊥

-- An output can replace this entry: nothing, or a file that the run has neither read nor written under another name.
abbrev pub IsReplaceable : RunFiles → List ℕ → Option Node → Type 0
IsReplaceable files name None = ⊤
IsReplaceable files name (Some (Node.File key mode)) =
    (Contains (keys_in files.read) key → ⊥) × IsNewBut (Some name) key files.written.items
IsReplaceable files name (Some _) = ⊥

-- `P` holds if nothing is in the way of an output's draft.
abbrev pub IfCanBegin : RunFiles → List ℕ → Disk → Type 0 → Type 0
IfCanBegin files name disk P = IsReplaceable files name (at disk.tree name)
    → IsClearable files (at disk.tree (name ++ 127 ∷ [])) → P

-- `P` holds if nothing is in the way of a commit.
abbrev pub IfCanPlace : {H : Type 0} → RunFiles → Draft H → Disk → Type 0 → Type 0
IfCanPlace files draft disk P = IsReplaceable files (string_bytes draft.name) (at disk.tree (string_bytes draft.name))
    → (IsFile draft.key (at disk.tree (string_bytes draft.name)) → ⊥) → P

-- An error that isn't for want of memory comes from a failed call.
abbrev pub HasCause : {A : Type 0} → Bool → Result A FileFault → Type 0
HasCause failed result = IfErr result (λ fault. (fault ≡ FileFault.Memory → ⊥) → IsTrue failed)

-- The committed files are left alone. If a draft's path can be cleared, an error has a cause.
pub record Prepares {F A : Type 0} (disk : Option (F → Disk)) (path : List ℕ) (files : RunFiles) (old new : F)
    (result : Result A FileFault) : Type 0 where
  pub leaves : LeavesFiles disk files old new
  pub cause : OnDisk disk (λ see. IsClearable files (at (see old).tree path) → HasCause (see new).failed result)

-- If nothing is in the way of a commit, a call has failed where it does. A file was committed under the draft's name
-- only if it may be replaced.
pub record AnswersCommit {F H : Type 0} (disk : Option (F → Disk)) (files : RunFiles) (draft : Draft H) (old new : F)
    (result : Result Bool FileFault) : Type 0 where
  pub cause : OnDisk disk (λ see. IfCanPlace files draft (see old) (OnErr result (IsTrue (see new).failed)))
  pub first : OnDisk disk (λ _. IfOk result (λ replaces. replaces ≡ false
      → IsUnnamed (string_bytes draft.name) files.written.items))

-- Nothing is at a path, or a call has failed.
abbrev pub IsCleared : List ℕ → Disk → Type 0
IsCleared path disk = (at disk.tree path ≡ None) ⊎ IsTrue disk.failed
