-- The state of a file system, and what each call does to it.
use Rattle.std.specs.Prelude.{◌≡◌, ℕ, List, [], ◌++◌, Option, Some, None, IsSome, IsSomeAnd, drop}
pub use Rattle.cweb_system.specs.declared.node.FileKey.{FileKey}
use Rattle.cweb_system.specs.declared.node.Node.{Node}

-- A file system. Different spellings of a path may name one place, as `b` and `./b`. Paths of different places have
-- different entries. A file can have several names (hard links), which share its key, bytes and permissions.
pub record Tree : Type 0 where
  -- The place that a path names: the folder on its way, links followed, and the last name.
  pub place : List ℕ → List ℕ
  -- What lies at a place, if anything.
  pub node : List ℕ → Option Node
  -- The file that a path leads to, links followed. Calls that change the tree may change it in any way.
  pub target : List ℕ → Option FileKey
  -- The bytes of each regular file.
  pub bytes : FileKey → List ℕ

-- What lies under a path, if anything. A link isn't followed.
abbrev pub at : Tree → List ℕ → Option Node
at tree path = tree.node (tree.place path)

-- The key of a regular file that was found.
abbrev pub file_key : Option Node → Option FileKey
file_key (Some (Node.File key mode)) = Some key
file_key _ = None

-- This is the regular file of this key.
abbrev pub IsFile : FileKey → Option Node → Type 0
IsFile key found = IsSomeAnd (file_key found) (λ file. file ≡ key)

-- The bytes of a file that was found.
abbrev pub bytes_of : Tree → Option Node → List ℕ
bytes_of tree (Some (Node.File file mode)) = tree.bytes file
bytes_of tree _ = []

-- The contents of the file under a path.
abbrev pub contents : Tree → List ℕ → List ℕ
contents tree path = bytes_of tree (at tree path)

-- The bytes of a file after a position.
abbrev pub rest : Tree → FileKey → ℕ → List ℕ
rest tree key position = drop position (tree.bytes key)

-- A file was opened at its first byte.
pub record Opens (path : List ℕ) (key : FileKey) (position : ℕ) (name : List ℕ) (tree : Tree) : Type 0 where
  pub target : tree.target path ≡ Some key
  pub start : position ≡ 0
  pub named : name ≡ path
  pub same : (k : FileKey) → IsFile k (at tree path) → k ≡ key

-- No file can be opened under a path.
pub record IsAbsent (path : List ℕ) (tree : Tree) : Type 0 where
  pub target : tree.target path ≡ None
  pub none : (k : FileKey) → IsFile k (at tree path) → ⊥

-- No entry elsewhere changes.
abbrev pub OthersStay : List ℕ → Tree → Tree → Type 0
OthersStay path old new = (p : List ℕ) → (p ≡ old.place path → ⊥) → new.node p ≡ old.node p

-- No other file's bytes change.
abbrev pub OtherBytesStay : FileKey → Tree → Tree → Type 0
OtherBytesStay key old new = (k : FileKey) → (k ≡ key → ⊥) → new.bytes k ≡ old.bytes k

-- An empty file with a new key was created. Nothing was there.
pub record Creates (path : List ℕ) (key : FileKey) (old new : Tree) : Type 0 where
  pub free : at old path ≡ None
  pub fresh : (p : List ℕ) → IsFile key (old.node p) → ⊥
  pub created : IsFile key (at new path)
  pub empty : new.bytes key ≡ []
  pub others : OthersStay path old new
  pub bytes : OtherBytesStay key old new

-- A file was created, or something is there already, and nothing changes.
abbrev pub MayCreate : {H : Type 0} → (H → FileKey) → List ℕ → Option H → Tree → Tree → Type 0
MayCreate key path (Some file) old new = Creates path (key file) old new
MayCreate key path None old new = IsSome (at old path) × (new ≡ old)

-- Bytes were appended to a file.
pub record Appends (key : FileKey) (piece : List ℕ) (old new : Tree) : Type 0 where
  pub appended : new.bytes key ≡ old.bytes key ++ piece
  pub others : OtherBytesStay key old new
  pub node : new.node ≡ old.node

-- A file's permissions were set.
pub record SetsMode (key : FileKey) (mode : ℕ) (old new : Tree) : Type 0 where
  pub set : (p : List ℕ) → IsFile key (old.node p) → new.node p ≡ Some (Node.File key mode)
  pub others : (p : List ℕ) → (IsFile key (old.node p) → ⊥) → new.node p ≡ old.node p
  pub bytes : new.bytes ≡ old.bytes

-- The entry under a path was removed.
pub record Removes (path : List ℕ) (old new : Tree) : Type 0 where
  pub gone : at new path ≡ None
  pub others : OthersStay path old new
  pub bytes : new.bytes ≡ old.bytes

-- The entry under `from` is now under `to` instead. What was there is gone.
pub record Renames (from to : List ℕ) (old new : Tree) : Type 0 where
  pub moved : at new to ≡ at old from
  pub gone : at new from ≡ None
  pub others : (p : List ℕ) → (p ≡ old.place from → ⊥) → (p ≡ old.place to → ⊥) → new.node p ≡ old.node p
  pub bytes : new.bytes ≡ old.bytes

-- A regular file was renamed. Two names of one file may both stay.
abbrev pub MayRename : List ℕ → List ℕ → Tree → Tree → Type 0
MayRename from to old new = (key : FileKey) → IsFile key (at old from) → (IsFile key (at old to) → ⊥)
    → Renames from to old new
