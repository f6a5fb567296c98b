-- The steps of a file system, what one step may do to the entries that are no drafts, and sets of files.
use Rattle.std.specs.Prelude.{◌≡◌, ◌⊎◌, ℕ, List, [], ◌∷◌, ◌++◌, Bool, Contains, IsTrue, IfOk, IsSome, OnErr, Option}
use Rattle.std.specs.Prelude.{None, Result, Ok, Err, ⊤, false}
use Rattle.std.specs.Option.{unwrap_or}
use Rattle.cweb_system.specs.declared.node.FileFault.{FileFault}
use Rattle.cweb_system.specs.Tree.{FileKey, Tree, IsFile, bytes_of}
use Rattle.cweb_system.specs.declared.file_set.FileSet.{FileSet}

abbrev pub keys_in : FileSet → List FileKey
keys_in set = set.keys.keys

-- What contracts know of an observable file system.
pub record Disk : Type 0 where
  pub tree : Tree
  -- The states before this one in the run, the latest first.
  pub past : List Tree
  -- Whether a call that changes files has failed.
  pub failed : Bool

-- A stand-in for the disk of a file system that isn't observable. No clause speaks of it.
abbrev pub no_disk : {F : Type 0} → F → Disk
no_disk fs = record {
  tree = record { place = λ path. path; node = λ place. None; target = λ path. None; bytes = λ key. [] };
  past = [];
  failed = false;
}

abbrev pub view : {F : Type 0} → Option (F → Disk) → F → Disk
view disk = unwrap_or disk no_disk

-- If the file system is observable, this holds of what is seen of it.
abbrev pub OnDisk : {F : Type 0} → Option (F → Disk) → ((F → Disk) → Type 0) → Type 0
OnDisk disk Says = IsSome disk → Says (view disk)

-- A call takes one step or none.
abbrev pub TakesStep : Disk → Disk → Type 0
TakesStep old new = (new.past ≡ old.tree ∷ old.past) ⊎ ((new.past ≡ old.past) × (new.tree ≡ old.tree))

-- A call that failed is noted.
abbrev pub NotesFailure : {A : Type 0} → Bool → Bool → Result A FileFault → Type 0
NotesFailure was now (Ok x) = now ≡ was
NotesFailure was now (Err fault) = IsTrue now

-- A call changes the tree as its result says. If it fails, it changes nothing, and that is noted. A path never comes to
-- name another place.
pub record Changes {F A : Type 0} (disk : Option (F → Disk)) (change : A → Tree → Tree → Type 0) (old new : F)
    (result : Result A FileFault) : Type 0 where
  pub ok : OnDisk disk (λ see. IfOk result (λ done. change done (see old).tree (see new).tree))
  pub err : OnDisk disk (λ see. OnErr result ((see new).tree ≡ (see old).tree))
  pub place : OnDisk disk (λ see. (see new).tree.place ≡ (see old).tree.place)
  pub step : OnDisk disk (λ see. TakesStep (see old) (see new))
  pub failed : OnDisk disk (λ see. NotesFailure (see old).failed (see new).failed result)

-- The place of a draft: of some name with byte 127 after it.
abbrev pub IsDraftPlace : Tree → List ℕ → Type 0
IsDraftPlace tree p = (name : List ℕ) × (tree.place (name ++ 127 ∷ []) ≡ p)

-- The entry stays, and its contents.
pub record Stays (old new : Tree) (p : List ℕ) : Type 0 where
  pub node : new.node p ≡ old.node p
  pub bytes : bytes_of new (new.node p) ≡ bytes_of old (old.node p)

-- What was a draft is here now, whole. It has replaced no file that was read.
pub record Arrives (read : List FileKey) (old new : Tree) (p : List ℕ) : Type 0 where
  pub draft : List ℕ
  pub was : IsDraftPlace old draft
  pub node : new.node p ≡ old.node draft
  pub bytes : bytes_of new (new.node p) ≡ bytes_of old (old.node draft)
  pub unread : (key : FileKey) → Contains read key → IsFile key (old.node p) → ⊥

-- At each place that isn't a draft's, the entry and its contents stay, or a whole draft arrives in one step.
abbrev pub IsDecent : List FileKey → Tree → Tree → Type 0
IsDecent read old new = (p : List ℕ) → (IsDraftPlace old p → ⊥) → Stays old new p ⊎ Arrives read old new p

-- Each step to this state was decent. The earlier states come latest first.
abbrev pub AreDecent : List FileKey → Tree → List Tree → Type 0
AreDecent read now [] = ⊤
AreDecent read now (before ∷ past) = IsDecent read before now × AreDecent read before past
