-- Each call is a decent step, and the steps of bins stay decent.
use Rattle.std.proofs.Common.{arith, ◌≡◌, ◌∙◌, ◌⊎◌, inl, inr, ◌∷◌, ◌++◌, [], ℕ, List, Bool, true, false, refl, sym, ap, subst, Option, Some, None, IsTrue}
use Rattle.std.specs.Prelude.{Result, Ok, Err, OnErr, IfOk, IfSome}
use Rattle.std.specs.Str.{bytes_eq}
use Rattle.std.proofs.lemmas.Slice.Eq.{bytes_eq-Decides}
use Rattle.cweb_system.specs.declared.node.FileFault.{FileFault}
use Rattle.cweb_system.specs.declared.node.FileKey.{FileKey}
use Rattle.cweb_system.specs.declared.node.Node.{Node}
use Rattle.cweb_system.specs.Tree.{Tree, IsFile, bytes_of, Appends, Creates, MayCreate, Removes, Renames, SetsMode}
use Rattle.cweb_system.specs.inner.Drafts.{IsAlone, KeepsDecent, IsDraftAlone, IsUnread}
use Rattle.cweb_system.specs.Steps.{Arrives, Changes, Disk, IsDecent, IsDraftPlace, NotesFailure, OnDisk, Stays, keys_in, AreDecent}
use Rattle.std.proofs.Math.Logic.{∥∥₁_map}
use Rattle.cweb_system.specs.declared.bins.Folder.{Folder}
use Rattle.cweb_system.specs.declared.file_set.FileSet.{FileSet}
use Rattle.cweb_system.specs.declared.file_system.FileSystem.{Ghosts as FileSystem}
use Rattle.cweb_system.specs.inner.FolderCalls.{KeepsFolder}

-- Equal functions are equal at each argument.
pub same_at : {A B : Type 0} {f g : A → B} → f ≡ g → (x : A) → f x ≡ g x
same_at {A} {B} e x = ap (λ (h : A → B). h x) e

pub differs : (a b : List ℕ) → bytes_eq a b ≡ false → a ≡ b → ⊥
differs a b test same = grind (arith, bytes_eq-Decides)

-- A draft's path: a name with byte 127 after it.
abbrev pub IsDraftPath : List ℕ → Type 0
IsDraftPath path = (name : List ℕ) × (path ≡ name ++ 127 ∷ [])

same_decent : (read : List FileKey) (a b : Tree) → b ≡ a → IsDecent read a b
same_decent read a b same = grind arith

by_result : {A : Type 0} (read : List FileKey) (change : A → Tree → Tree → Type 0) (a b : Tree) (r : Result A FileFault)
    → IfOk r (λ x. change x a b) → OnErr r (b ≡ a) → ((x : A) → change x a b → IsDecent read a b) → IsDecent read a b
by_result read change a b (Ok x) ok err then = then x ok
by_result read change a b (Err e) ok err then = same_decent read a b err

noted : {A : Type 0} (was now : Bool) (r : Result A FileFault) → NotesFailure was now r → IsTrue was → IsTrue now
noted was now (Ok x) same is = same ∙ is
noted was now (Err e) is' is = is'

-- A call that changes the tree decently.
pub keeps : {F A : Type 0} {disk : Option (F → Disk)} (read : List FileKey) (change : A → Tree → Tree → Type 0)
    {old new : F} {r : Result A FileFault} → Changes disk change old new r
    → OnDisk disk (λ see. (x : A) → change x (see old).tree (see new).tree
    → IsDecent read (see old).tree (see new).tree)
    → KeepsDecent disk read old new
keeps {F = F} {disk = disk} read change {old} {new} {r} c then = grind (arith, by_result, noted)

-- A call that changes the tree in one way changes it in another, too, where the one is a case of the other.
pub changes_then : {F A : Type 0} {disk : Option (F → Disk)} (one other : A → Tree → Tree → Type 0) (old new : F)
    (r : Result A FileFault) → Changes disk one old new r
    → OnDisk disk (λ see. (x : A) → one x (see old).tree (see new).tree → other x (see old).tree (see new).tree)
    → Changes disk other old new r
changes_then {A = A} one other old new r c then = grind arith

pub keeps_then : {F : Type 0} {disk : Option (F → Disk)} {read : List FileKey} {a b c : F} → KeepsDecent disk read a b
    → KeepsDecent disk read b c → KeepsDecent disk read a c
keeps_then first then = grind arith

kept : (old new : Tree) (o : Option Node) → ((k : FileKey) → IsFile k o → new.bytes k ≡ old.bytes k)
    → bytes_of new o ≡ bytes_of old o
kept old new (Some (Node.File k m)) same = same k refl
kept old new _ same = refl

stays : (old new : Tree) (p : List ℕ) → new.node p ≡ old.node p
    → ((k : FileKey) → IsFile k (old.node p) → new.bytes k ≡ old.bytes k) → Stays old new p
stays old new p node bytes = grind (arith, kept)

-- The place of a draft's path is a draft's place.
pub place_is : (tree : Tree) (path p : List ℕ) → IsDraftPath path → p ≡ tree.place path → IsDraftPlace tree p
place_is tree path p (name, is) at_path = (name, ap tree.place (sym is) ∙ sym at_path)

pub creates_decent : (read : List FileKey) (path : List ℕ) (key : FileKey) (old new : Tree) → IsDraftPath path
    → Creates path key old new → IsDecent read old new
creates_decent read path key old new draft made p other = grind (arith, stays, place_is)

-- A file was created, or something was there.
pub may_create_decent : {H : Type 0} (read : List FileKey) (key : H → FileKey) (path : List ℕ) (made : Option H)
    (old new : Tree) → IsDraftPath path → MayCreate key path made old new → IsDecent read old new
may_create_decent read key path (Some file) old new draft made = creates_decent read path (key file) old new draft made
may_create_decent read key path None old new draft made = same_decent read old new made.1

pub removes_decent : (read : List FileKey) (path : List ℕ) (old new : Tree) → IsDraftPath path
    → Removes path old new → IsDecent read old new
removes_decent read path old new draft gone p other = grind (arith, stays, place_is, same_at)

pub appends_decent : (read : List FileKey) (key : FileKey) (piece : List ℕ) (old new : Tree) → IsDraftAlone key old
    → Appends key piece old new → IsDecent read old new
appends_decent read key piece old new alone appends p other = grind (arith, stays, same_at)

pub sets_mode_decent : (read : List FileKey) (key : FileKey) (mode : ℕ) (old new : Tree) → IsDraftAlone key old
    → SetsMode key mode old new → IsDecent read old new
sets_mode_decent read key mode old new alone sets p other = grind (arith, stays, same_at)

pub renames_decent : (read : List FileKey) (from to : List ℕ) (old new : Tree) → IsDraftPath from
    → new.place ≡ old.place → IsUnread read to old → Renames from to old new → IsDecent read old new
renames_decent read from to old new draft places unread renames p other = by_test (bytes_eq p (old.place to)) refl
  where
    here : p ≡ old.place to → new.node p ≡ old.node (old.place from)
    here e = ap new.node (e ∙ same_at (sym places) to) ∙ renames.moved

    by_test : (b : Bool) → bytes_eq p (old.place to) ≡ b → Stays old new p ⊎ Arrives read old new p
    by_test true e = inr (record {
      draft = old.place from;
      was = place_is old from (old.place from) draft refl;
      node = here ((bytes_eq-Decides p (old.place to)).0 e);
      bytes = grind (arith, bytes_eq-Decides, kept, same_at);
      unread = λ key among is. unread key among
          (subst (λ (q : List ℕ). IsFile key (old.node q)) ((bytes_eq-Decides p (old.place to)).0 e) is);
    })
    by_test false e = inl (stays old new p
        (renames.others p (λ is. other (place_is old from p draft is)) (differs p (old.place to) e))
        (λ k is. same_at renames.bytes k))

at_place : (p place : List ℕ) → ((p ≡ place → ⊥) → ⊥) → p ≡ place
at_place p place not_apart = by_test (bytes_eq p place) refl
  where
    by_test : (b : Bool) → bytes_eq p place ≡ b → p ≡ place
    by_test true e = (bytes_eq-Decides p place).0 e
    by_test false e = absurd (not_apart (differs p place e))

-- A new file has one name.
alone_new : (path : List ℕ) (key : FileKey) (old new : Tree) → new.place ≡ old.place → Creates path key old new
    → IsAlone key path new
alone_new path key old new places made p is = grind (arith, at_place, same_at)

alone_moded : (path : List ℕ) (key : FileKey) (mode : ℕ) (old new : Tree) → new.place ≡ old.place
    → SetsMode key mode old new → IsAlone key path old → IsAlone key path new
alone_moded path key mode old new places sets alone p is = grind (arith, at_place, same_at)

pub alone_created : {H : Type 0} (key : H → FileKey) (path : List ℕ) (old new : Tree) (r : Result (Option H) FileFault)
    → new.place ≡ old.place → IfOk r (λ made. MayCreate key path made old new)
    → IfOk r (λ made. IfSome made (λ file. IsAlone (key file) path new))
alone_created key path old new (Ok (Some file)) places made = alone_new path (key file) old new places made
alone_created key path old new (Ok None) places made = tt
alone_created key path old new (Err e) places made = tt

pub alone_set : {A : Type 0} (path : List ℕ) (key : FileKey) (mode : ℕ) (old new : Tree) (r : Result A FileFault)
    → new.place ≡ old.place → IfOk r (λ _. SetsMode key mode old new) → OnErr r (new ≡ old) → IsAlone key path old
    → IsAlone key path new
alone_set path key mode old new (Ok x) places sets same = alone_moded path key mode old new places sets
alone_set path key mode old new (Err e) places sets same = grind arith

abbrev pub FolderSteps : {F H : Type 0} (system : FileSystem F H) → Folder F H system → Type 0
FolderSteps system folder =
    OnDisk system.disk (λ see. AreDecent (keys_in folder.files.read) (see folder.fs).tree (see folder.fs).past)

pub steps_kept : {F H : Type 0} (system : FileSystem F H) (old new : Folder F H system) → KeepsFolder system old new
    → ∥ (FolderSteps system old) ∥₁ → ∥ (FolderSteps system new) ∥₁
steps_kept {F = F} system old new keeps steps = ∥∥₁_map steps (λ (s : FolderSteps system old).
    subst (λ (read : FileSet). OnDisk system.disk
    (λ (see : F → Disk). AreDecent (keys_in read) (see new.fs).tree (see new.fs).past)) (sym keeps.read)
    (λ some. keeps.decent.steps some (s some)))
