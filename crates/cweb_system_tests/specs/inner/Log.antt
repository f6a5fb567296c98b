-- The state of a file system in memory, from its log.
use Rattle.std.specs.Prelude.{◌≡◌, ◌<◌, ℕ, List, [], ◌∷◌, ◌++◌, Option, Some, None, if◌then◌else◌, string_bytes, ⊤}
use Rattle.std.specs.Str.{bytes_eq}
use Rattle.cweb_system.specs.declared.node.FileKey.{FileKey}
use Rattle.cweb_system.specs.declared.node.Node.{Node}
use Rattle.cweb_system_tests.specs.declared.memory_folder.log.Change.{Change}
use Rattle.cweb_system_tests.specs.declared.memory_folder.log.Change.TheVariants.{Put, Create, Append, SetMode, Move, Remove}
use Rattle.cweb_system_tests.specs.declared.memory_folder.layout.Layout.{Layout}
use Rattle.cweb_system_tests.specs.declared.memory_folder.steps.NewFile.{NewFile}
use Rattle.cweb_system_tests.specs.declared.memory_folder.steps.Renaming.{Renaming}
use Rattle.cweb_system.specs.Tree.{Tree, IsFile, OthersStay, at, file_key}
use Rattle.cweb_system_tests.specs.inner.Layout.{followed, place_in}
use Rattle.cweb_system.specs.inner.Written.{key_eq}

abbrev pub node_with_mode : FileKey → ℕ → Option Node → Option Node
node_with_mode key mode (Some (Node.File k m)) = Some (Node.File k (if key_eq k key then mode else m))
node_with_mode key mode found = found

-- What lies at a place after a change.
abbrev pub node_step : Change → List ℕ → Option Node → Option Node
node_step (Put at node) p found = if bytes_eq (string_bytes at) p then Some node else found
node_step (Create at key mode) p found = if bytes_eq (string_bytes at) p then Some (Node.File key mode) else found
node_step (Append key byte) p found = found
node_step (SetMode key mode) p found = node_with_mode key mode found
node_step (Move from to node) p found =
    if bytes_eq (string_bytes to) p then Some node else (if bytes_eq (string_bytes from) p then None else found)
node_step (Remove at) p found = if bytes_eq (string_bytes at) p then None else found

-- The bytes of a file after a change.
abbrev pub bytes_step : Change → FileKey → List ℕ → List ℕ
bytes_step (Create at key mode) k bytes = if key_eq k key then [] else bytes
bytes_step (Append key byte) k bytes = if key_eq k key then bytes ++ byte ∷ [] else bytes
bytes_step _ k bytes = bytes

abbrev pub nodes_by : List Change → List ℕ → Option Node → Option Node
nodes_by [] p found = found
nodes_by (c ∷ log) p found = nodes_by log p (node_step c p found)

abbrev pub bytes_by : List Change → FileKey → List ℕ → List ℕ
bytes_by [] k bytes = bytes
bytes_by (c ∷ log) k bytes = bytes_by log k (bytes_step c k bytes)

-- The state after these changes.
abbrev pub tree_of : Layout → List Change → Tree
tree_of layout log = record {
  place = place_in layout;
  node = λ p. nodes_by log p None;
  target = λ path. file_key (followed layout (λ p. nodes_by log p None) (place_in layout path));
  bytes = λ k. bytes_by log k [];
}

-- The number of each file is below this one.
abbrev pub KeysBelow : ℕ → List Change → Type 0
KeysBelow next log = (p : List ℕ) (key : FileKey) → IsFile key (nodes_by log p None) → key.number < next

-- This number is above that of the file that a change names.
abbrev pub IsAbove : Change → ℕ → Type 0
IsAbove (Put at (Node.File key mode)) next = key.number < next
IsAbove (Create at key mode) next = key.number < next
IsAbove (Move from to (Node.File key mode)) next = key.number < next
IsAbove _ next = ⊤

-- The states before each change of a log that follows `base`, the latest first.
abbrev pub past_by : Layout → List Change → List Change → List Tree
past_by layout base [] = []
past_by layout base (c ∷ log) = past_by layout (base ++ c ∷ []) log ++ tree_of layout base ∷ []

-- A node was put at a path.
pub record Puts (path : List ℕ) (node : Node) (old new : Tree) : Type 0 where
  pub there : at new path ≡ Some node
  pub others : OthersStay path old new
  pub bytes : new.bytes ≡ old.bytes

-- A file can be created under a path.
pub record IsNewFile (layout : Layout) (log : List Change) (path : List ℕ) (new : NewFile) : Type 0 where
  pub named : string_bytes new.at ≡ place_in layout path
  pub free : nodes_by log (place_in layout path) None ≡ None
  pub fresh : KeysBelow new.key.number log

-- Two paths name one regular file.
abbrev pub IsSameFile : Layout → List Change → List ℕ → List ℕ → Type 0
IsSameFile layout log from to = (key : FileKey) → IsFile key (nodes_by log (place_in layout from) None)
    → IsFile key (nodes_by log (place_in layout to) None)

-- What is under `from` can be renamed to the different place of `to`.
pub record IsRenaming (layout : Layout) (log : List Change) (from to : List ℕ) (renaming : Renaming) : Type 0 where
  pub old : string_bytes renaming.old ≡ place_in layout from
  pub new : string_bytes renaming.new ≡ place_in layout to
  pub node : nodes_by log (place_in layout from) None ≡ Some renaming.node
  pub apart : place_in layout from ≡ place_in layout to → ⊥
