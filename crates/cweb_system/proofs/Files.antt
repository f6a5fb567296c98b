-- What calls for drafts leave.
use Rattle.std.proofs.Common.{arith}
use Rattle.std.proofs.Common.{◌≡◌, ◌⊎◌, ◌∙◌, ⊎_elim, slice_index_or, ℕ, List, refl, sym, ap, subst, Option, string_bytes}
use Rattle.std.specs.Prelude.{All}
use Rattle.cweb_system.specs.declared.drafts.path.Draft.{Draft}
use Rattle.cweb_system.specs.declared.node.FileKey.{FileKey}
use Rattle.cweb_system.specs.declared.run_files.RunFiles.{RunFiles}
use Rattle.cweb_system.specs.declared.written.WrittenFile.{WrittenFile}
use Rattle.cweb_system.specs.Steps.{keys_in, Disk, OnDisk}
use Rattle.cweb_system.specs.Tree.{Tree, IsFile, Removes, SetsMode, at}
use Rattle.cweb_system.specs.inner.Drafts.{Clears, DraftIsThere, IsAlone, LeavesFiles}
use Rattle.cweb_system.specs.inner.Written.{Leaves}
use Rattle.cweb_system.proofs.Keys.{key_is, key_self}
use Rattle.cweb_system.proofs.Steps.{keeps_then, same_at}
use Rattle.cweb_system.proofs.Views.{leaves_then}

pub leaves_files_then : {F : Type 0} {disk : Option (F → Disk)} {files : RunFiles} {a b c : F}
    → LeavesFiles disk files a b → LeavesFiles disk files b c → LeavesFiles disk files a c
leaves_files_then {files = files} first then = grind (arith, keeps_then, leaves_then)

-- What is cleared is no committed file.
cleared_leaves : (ws : List WrittenFile) (path : List ℕ) (old new : Tree) → new.place ≡ old.place
    → Removes path old new ⊎ (new ≡ old) → All (λ (w : WrittenFile). IsFile w.key (at old path) → ⊥) ws
    → Leaves ws old new
cleared_leaves ws path old new places clears other = ⊎_elim
    (λ (gone : Removes path old new). record {
      place = places;
      entries = λ k d within is. stays gone (slice_index_or ws k d) (other k d within) is;
      bytes = λ k d within. same_at gone.bytes (slice_index_or ws k d).key;
    })
    (λ (same : new ≡ old). subst (Leaves ws old) (sym same)
    (record { place = refl; entries = λ k d within is. is; bytes = λ k d within. refl }))
    clears
  where
    stays : Removes path old new → (w : WrittenFile) → (IsFile w.key (at old path) → ⊥)
        → IsFile w.key (at old (string_bytes w.name)) → IsFile w.key (at new (string_bytes w.name))
    stays gone w apart is = subst (IsFile w.key) (sym (gone.others (new.place (string_bytes w.name))
        (λ e. apart (subst (λ (p : List ℕ). IsFile w.key (old.node p)) (place ∙ e) is)) ∙ ap old.node (sym place))) is
      where
        place : old.place (string_bytes w.name) ≡ new.place (string_bytes w.name)
        place = same_at (sym places) (string_bytes w.name)

-- A draft's path is cleared of what is no committed file.
pub clearing : {F : Type 0} {disk : Option (F → Disk)} (files : RunFiles) (path : List ℕ) (old new : F)
    → Clears disk path old new
    → OnDisk disk (λ see. All (λ (w : WrittenFile). IsFile w.key (at (see old).tree path) → ⊥) files.written.items)
    → LeavesFiles disk files old new
clearing files path old new clears other = record {
  decent = clears.decent (keys_in files.read);
  leaves = λ some.
      cleared_leaves files.written.items path _ _ (clears.place some) (clears.removes some) (other some);
}

-- A file keeps its key where permissions are set.
pub set_back : (key : FileKey) (mode : ℕ) (old new : Tree) → SetsMode key mode old new → (k : FileKey) (p : List ℕ)
    → IsFile k (new.node p) → IsFile k (old.node p)
set_back key mode old new sets k p is = grind (arith, key_is, key_self)

-- The draft is still there after its permissions were set.
pub draft_set : {H : Type 0} (key : H → FileKey) (ws : List WrittenFile) (draft : Draft H) (mode : ℕ) (old new : Tree)
    → new.place ≡ old.place → SetsMode (key draft.file) mode old new
    → ((path : List ℕ) → IsAlone (key draft.file) path old → IsAlone (key draft.file) path new)
    → DraftIsThere key ws draft old → DraftIsThere key ws draft new
draft_set key ws draft mode old new places sets alone there = grind (arith, same_at)
