-- One more change in a log.
use Rattle.std.proofs.Common.{◌≡◌, ◌∙◌, ◌<◌, ◌≤◌, ℕ, List, [], ◌∷◌, ◌++◌, Bool, true, cond, refl, sym, ap, subst, string_bytes, Option, Some, None, take, drop, length, arith, append_assoc, append-nil, take-append-drop}
use Rattle.std.proofs.lemmas.List.{take-append-le}
use lib.Seq.{drop-append-le}
use Rattle.std.specs.Str.{bytes_eq}
use Rattle.cweb_system_tests.specs.declared.memory_folder.log.Change.{Change}
use Rattle.cweb_system_tests.specs.declared.memory_folder.log.Change.TheVariants.{Put, Create, Append, SetMode, Move, Remove}
use Rattle.cweb_system.specs.declared.node.FileKey.{FileKey}
use Rattle.cweb_system.specs.declared.node.Node.{Node}
use Rattle.cweb_system.specs.Tree.{Tree, IsFile, Appends, Creates, Removes, Renames, SetsMode}
use Rattle.cweb_system_tests.specs.declared.memory_folder.layout.Layout.{Layout}
use Rattle.cweb_system_tests.specs.declared.memory_folder.steps.NewFile.{NewFile}
use Rattle.cweb_system_tests.specs.declared.memory_folder.steps.Renaming.{Renaming}
use Rattle.cweb_system_tests.specs.inner.Layout.{place_in}
use Rattle.cweb_system_tests.specs.inner.Log.{IsNewFile, IsRenaming, Puts, bytes_by, bytes_step, node_step, nodes_by, past_by, tree_of, node_with_mode}
use Rattle.cweb_system.specs.inner.Written.{key_eq}
use Rattle.cweb_system.proofs.Keys.{key_self}
use Rattle.cweb_system_tests.proofs.Keys.{key_apart, path_apart, path_same}

pub nodes_more : (log : List Change) (c : Change) (p : List ℕ) (found : Option Node)
    → nodes_by (log ++ c ∷ []) p found ≡ node_step c p (nodes_by log p found)
nodes_more [] c p found = refl
nodes_more (first ∷ log) c p found = nodes_more log c p (node_step first p found)

pub bytes_more : (log : List Change) (c : Change) (k : FileKey) (bytes : List ℕ)
    → bytes_by (log ++ c ∷ []) k bytes ≡ bytes_step c k (bytes_by log k bytes)
bytes_more [] c k bytes = refl
bytes_more (first ∷ log) c k bytes = bytes_more log c k (bytes_step first k bytes)

pub puts : (layout : Layout) (log : List Change) (at : _) (path : List ℕ) (node : Node)
    → string_bytes at ≡ place_in layout path
    → Puts path node (tree_of layout log) (tree_of layout (log ++ Put at node ∷ []))
puts layout log at path node named = record {
  there = nodes_more log (Put at node) place None
      ∙ ap (λ (b : Bool). cond b (Some node) (nodes_by log place None)) (path_same (string_bytes at) place named);
  others = λ p apart. nodes_more log (Put at node) p None
      ∙ ap (λ (b : Bool). cond b (Some node) (nodes_by log p None))
      (path_apart (string_bytes at) p (λ same. apart (sym same ∙ named)));
  bytes = λ i k. bytes_more log (Put at node) k [] i;
}
  where
    place : List ℕ
    place = place_in layout path

pub creates : (layout : Layout) (log : List Change) (path : List ℕ) (new : NewFile) (mode : ℕ)
    → IsNewFile layout log path new
    → Creates path new.key (tree_of layout log) (tree_of layout (log ++ Create new.at new.key mode ∷ []))
creates layout log path new mode is = record {
  free = is.free;
  fresh = λ p found. self_below (is.fresh p new.key found);
  created = subst (λ (o : Option Node). IsFile new.key o)
      (sym (nodes_more log change place None
      ∙ ap (λ (b : Bool). cond b (Some (Node.File new.key mode)) (nodes_by log place None))
      (path_same (string_bytes new.at) place is.named))) refl;
  empty = bytes_more log change new.key []
      ∙ ap (λ (b : Bool). cond b [] (bytes_by log new.key [])) (key_self new.key);
  others = λ p apart. nodes_more log change p None
      ∙ ap (λ (b : Bool). cond b (Some (Node.File new.key mode)) (nodes_by log p None))
      (path_apart (string_bytes new.at) p (λ same. apart (sym same ∙ is.named)));
  bytes = λ k apart. bytes_more log change k []
      ∙ ap (λ (b : Bool). cond b [] (bytes_by log k [])) (key_apart k new.key apart);
}
  where
    place : List ℕ
    place = place_in layout path

    change : Change
    change = Create new.at new.key mode

    self_below : new.key.number < new.key.number → ⊥
    self_below lt = omega arith

pub appends : (layout : Layout) (log : List Change) (key : FileKey) (byte : ℕ)
    → Appends key (byte ∷ []) (tree_of layout log) (tree_of layout (log ++ Append key byte ∷ []))
appends layout log key byte = record {
  appended = bytes_more log (Append key byte) key []
      ∙ ap (λ (b : Bool). cond b (bytes_by log key [] ++ byte ∷ []) (bytes_by log key [])) (key_self key);
  others = λ k apart. bytes_more log (Append key byte) k []
      ∙ ap (λ (b : Bool). cond b (bytes_by log k [] ++ byte ∷ []) (bytes_by log k [])) (key_apart k key apart);
  node = λ i p. nodes_more log (Append key byte) p None i;
}

moded : (key : FileKey) (mode : ℕ) (found : Option Node) → IsFile key found
    → node_with_mode key mode found ≡ Some (Node.File key mode)
moded key mode (Some (Node.File k m)) is = λ i. Some (Node.File (is i) (cond (test i) mode m))
  where
    test : key_eq k key ≡ true
    test = ap (λ (f : FileKey). key_eq f key) is ∙ key_self key
moded key mode _ is = absurd is

unmoded : (key : FileKey) (mode : ℕ) (found : Option Node) → (IsFile key found → ⊥)
    → node_with_mode key mode found ≡ found
unmoded key mode (Some (Node.File k m)) other =
    ap (λ (b : Bool). Some (Node.File k (cond b mode m))) (key_apart k key other)
unmoded key mode _ other = refl

pub sets_mode : (layout : Layout) (log : List Change) (key : FileKey) (mode : ℕ)
    → SetsMode key mode (tree_of layout log) (tree_of layout (log ++ SetMode key mode ∷ []))
sets_mode layout log key mode = record {
  set = λ p is. nodes_more log (SetMode key mode) p None ∙ moded key mode (nodes_by log p None) is;
  others = λ p other. nodes_more log (SetMode key mode) p None ∙ unmoded key mode (nodes_by log p None) other;
  bytes = λ i k. bytes_more log (SetMode key mode) k [] i;
}

pub removes : (layout : Layout) (log : List Change) (at : _) (path : List ℕ) → string_bytes at ≡ place_in layout path
    → Removes path (tree_of layout log) (tree_of layout (log ++ Remove at ∷ []))
removes layout log at path named = record {
  gone = nodes_more log (Remove at) place None
      ∙ ap (λ (b : Bool). cond b None (nodes_by log place None)) (path_same (string_bytes at) place named);
  others = λ p apart. nodes_more log (Remove at) p None
      ∙ ap (λ (b : Bool). cond b None (nodes_by log p None))
      (path_apart (string_bytes at) p (λ same. apart (sym same ∙ named)));
  bytes = λ i k. bytes_more log (Remove at) k [] i;
}
  where
    place : List ℕ
    place = place_in layout path

pub renames : (layout : Layout) (log : List Change) (from to : List ℕ) (r : Renaming) → IsRenaming layout log from to r
    → Renames from to (tree_of layout log) (tree_of layout (log ++ Move r.old r.new r.node ∷ []))
renames layout log from to r is = record {
  moved = nodes_more log change new None
      ∙ ap (λ (b : Bool). cond b (Some r.node) (rest new)) (path_same (string_bytes r.new) new is.new) ∙ sym is.node;
  gone = nodes_more log change old None
      ∙ ap (λ (b : Bool). cond b (Some r.node) (rest old))
      (path_apart (string_bytes r.new) old (λ same. is.apart (sym same ∙ is.new)))
      ∙ ap (λ (b : Bool). cond b None (nodes_by log old None)) (path_same (string_bytes r.old) old is.old);
  others = λ p not_from not_to. nodes_more log change p None
      ∙ ap (λ (b : Bool). cond b (Some r.node) (rest p))
      (path_apart (string_bytes r.new) p (λ same. not_to (sym same ∙ is.new)))
      ∙ ap (λ (b : Bool). cond b None (nodes_by log p None))
      (path_apart (string_bytes r.old) p (λ same. not_from (sym same ∙ is.old)));
  bytes = λ i k. bytes_more log change k [] i;
}
  where
    old : List ℕ
    old = place_in layout from

    new : List ℕ
    new = place_in layout to

    change : Change
    change = Move r.old r.new r.node

    rest : List ℕ → Option Node
    rest p = cond (bytes_eq (string_bytes r.old) p) None (nodes_by log p None)

past_more : (layout : Layout) (base log : List Change) (c : Change)
    → past_by layout base (log ++ c ∷ []) ≡ tree_of layout (base ++ log) ∷ past_by layout base log
past_more layout base [] c = ap (λ (l : List Change). tree_of layout l ∷ []) (sym (append-nil base))
past_more layout base (d ∷ log) c =
    ap (λ (l : List Tree). l ++ tree_of layout base ∷ []) (past_more layout (base ++ d ∷ []) log c)
    ∙ ap (λ (l : List Change). tree_of layout l ∷ (past_by layout (base ++ d ∷ []) log ++ tree_of layout base ∷ []))
    (append_assoc base (d ∷ []) log)

-- A change adds the state before it to the past.
pub past_push : (layout : Layout) (log : List Change) (begun : ℕ) (c : Change) → begun ≤ length log
    → past_by layout (take begun (log ++ c ∷ [])) (drop begun (log ++ c ∷ []))
    ≡ tree_of layout log ∷ past_by layout (take begun log) (drop begun log)
past_push layout log begun c within =
    (λ i. past_by layout (take-append-le begun log (c ∷ []) within i) (drop-append-le begun log (c ∷ []) within i))
    ∙ past_more layout (take begun log) (drop begun log) c
    ∙ ap (λ (l : List Change). tree_of layout l ∷ past_by layout (take begun log) (drop begun log))
    (take-append-drop begun log)
