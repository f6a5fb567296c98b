-- The committed files as the file system shows them, after calls that leave them alone, and after a commit.
use Rattle.std.proofs.Common.{arith}
use Rattle.std.proofs.Common.{◌≡◌, ◌∙◌, ℕ, List, [], ◌∷◌, ◌++◌, Bool, true, false, not, cond, map, refl, sym, ap, subst, string_bytes, Option, Some}
use Rattle.std.proofs.lemmas.List.{map-append}
use Rattle.std.proofs.lemmas.List.Elements.{All-nil, All-cons, All-head, All-tail, All-push}
use Rattle.std.proofs.lemmas.Slice.Eq.{bytes_eq-Decides}
use Rattle.std.specs.Prelude.{All, filter}
use Rattle.std.specs.Str.{bytes_eq}
use Rattle.cweb_files.specs.Files.{put_file, without}
use Rattle.cweb_system.specs.declared.node.FileKey.{FileKey}
use Rattle.cweb_system.specs.declared.node.Node.{Node}
use Rattle.cweb_system.specs.declared.written.WrittenFile.{WrittenFile}
use Rattle.cweb_system.specs.Tree.{Tree, at, bytes_of, IsFile, Appends}
use Rattle.cweb_system.specs.inner.Written.{FilesAreThere, IsNew, IsUnnamed, Leaves, Places}
use Rattle.cweb_system.specs.Bins.{file_in}
use Rattle.cweb_system.proofs.Steps.{differs, same_at}

-- A file that was found has the bytes of its key.
pub bytes_is : (tree : Tree) (o : Option Node) (key : FileKey) → IsFile key o → bytes_of tree o ≡ tree.bytes key
bytes_is tree (Some (Node.File k m)) key is = ap tree.bytes is
bytes_is tree _ key is = absurd is

pub map_same : {A B : Type 0} (f g : A → B) (xs : List A) → All (λ (x : A). f x ≡ g x) xs → map f xs ≡ map g xs
map_same f g [] all = refl
map_same f g (x ∷ xs) all =
    λ i. All-head (λ y. f y ≡ g y) x xs all i ∷ map_same f g xs (All-tail (λ y. f y ≡ g y) x xs all) i

pub files_left : (written : List WrittenFile) (old new : Tree) → FilesAreThere old written → Leaves written old new
    → map (file_in new) written ≡ map (file_in old) written
files_left written old new stand leaves = grind (arith, map_same, bytes_is)

-- They show what they showed, if the list is the same.
pub files_then : {ws now : List WrittenFile} {old new : Tree} → now ≡ ws → FilesAreThere old ws → Leaves ws old new
    → map (file_in new) now ≡ map (file_in old) ws
files_then {ws} {now} {old} {new} same there leaves = grind (arith, files_left)

-- Whether a file isn't of this name.
abbrev pub is_other : List ℕ → WrittenFile → Bool
is_other name w = not (bytes_eq (string_bytes w.name) name)

-- A filter that each element passes.
filter_all : (p : WrittenFile → Bool) (ws : List WrittenFile) → All (λ w. p w ≡ true) ws → filter p ws ≡ ws
filter_all p [] all = refl
filter_all p (w ∷ ws) all =
    ap (λ (b : Bool). cond b (w ∷ filter p ws) (filter p ws)) (All-head (λ v. p v ≡ true) w ws all)
    ∙ ap (λ (l : List WrittenFile). w ∷ l) (filter_all p ws (All-tail (λ v. p v ≡ true) w ws all))

pub none_removed : (name : List ℕ) (ws : List WrittenFile) → IsUnnamed name ws → ws ≡ filter (is_other name) ws
none_removed name ws unnamed = grind (arith, filter_all, bytes_eq-Decides)

abbrev IfOther : (WrittenFile → Type 0) → List ℕ → WrittenFile → Type 0
IfOther P name w = (string_bytes w.name ≡ name → ⊥) → P w

abbrev IsSame : Tree → Tree → WrittenFile → Type 0
IsSame old new w = file_in new w ≡ file_in old w

-- What holds of the files of other names holds of those that are kept.
pub kept : (P : WrittenFile → Type 0) (name : List ℕ) (ws : List WrittenFile)
    → All (λ (w : WrittenFile). (string_bytes w.name ≡ name → ⊥) → P w) ws → All P (filter (is_other name) ws)
kept P name [] all = All-nil P
kept P name (w ∷ ws) all = by_test (bytes_eq (string_bytes w.name) name) refl
    (kept P name ws (All-tail (IfOther P name) w ws all))
  where
    by_test : (b : Bool) → bytes_eq (string_bytes w.name) name ≡ b → All P (filter (is_other name) ws)
        → All P (cond (not b) (w ∷ filter (is_other name) ws) (filter (is_other name) ws))
    by_test true e later = later
    by_test false e later = All-cons P w (filter (is_other name) ws)
        (All-head (IfOther P name) w ws all (differs (string_bytes w.name) name e)) later

pub others_same : (old new : Tree) (name : List ℕ) (ws : List WrittenFile)
    → All (λ (w : WrittenFile). (string_bytes w.name ≡ name → ⊥) → file_in new w ≡ file_in old w) ws
    → map (file_in new) (filter (is_other name) ws) ≡ without name (map (file_in old) ws)
others_same old new name [] all = refl
others_same old new name (w ∷ ws) all = by_test (bytes_eq (string_bytes w.name) name) refl
    (others_same old new name ws (All-tail (IfOther (IsSame old new) name) w ws all))
  where
    by_test : (b : Bool) → bytes_eq (string_bytes w.name) name ≡ b
        → map (file_in new) (filter (is_other name) ws) ≡ without name (map (file_in old) ws)
        → map (file_in new) (cond (not b) (w ∷ filter (is_other name) ws) (filter (is_other name) ws))
        ≡ cond (not b) (file_in old w ∷ without name (map (file_in old) ws)) (without name (map (file_in old) ws))
    by_test true e later = later
    by_test false e later = λ i. All-head (IfOther (IsSame old new) name) w ws all
        (differs (string_bytes w.name) name e) i ∷ later i

-- The files after a commit.
pub committing : (ws after : List WrittenFile) (w : WrittenFile) (name : List ℕ) (old new : Tree) → FilesAreThere old ws
    → Places name w.key ws old new → string_bytes w.name ≡ name → after ≡ filter (is_other name) ws ++ w ∷ []
    → map (file_in new) after ≡ put_file (map (file_in old) ws) (record { name = name; bytes = old.bytes w.key })
committing ws after w name old new stand places named is =
    grind (arith, map-append, others_same, same_at, bytes_is)

pub stands_then : (ws after : List WrittenFile) (w : WrittenFile) (name : List ℕ) (old new : Tree)
    → Places name w.key ws old new → string_bytes w.name ≡ name → after ≡ filter (is_other name) ws ++ w ∷ []
    → FilesAreThere new after
stands_then ws after w name old new places named is = subst (λ (l : List WrittenFile). FilesAreThere new l) (sym is)
    (All-push (λ (v : WrittenFile). IsFile v.key (at new (string_bytes v.name))) (filter (is_other name) ws) w
    (kept (λ (v : WrittenFile). IsFile v.key (at new (string_bytes v.name))) name ws places.entries)
    (subst (λ (n : List ℕ). IsFile w.key (at new n)) (sym named) places.there))

-- Bytes of a draft leave the committed files alone.
pub appending : (ws : List WrittenFile) (key file : FileKey) (piece : List ℕ) (old new : Tree) → IsNew key ws
    → file ≡ key → new.place ≡ old.place → Appends file piece old new → Leaves ws old new
appending ws key file piece old new is_new same places appends = grind (arith, same_at)

pub leaves_then : (ws : List WrittenFile) (a b c : Tree) → Leaves ws a b → Leaves ws b c → Leaves ws a c
leaves_then ws a b c first then = grind arith
