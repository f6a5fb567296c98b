-- The contents of a memory shelf after one more entry, and the bytes that a read takes.
use Rattle.std.proofs.Common.{◌≡◌, ◌≤◌, ◌+◌, ◌-◌, ℕ, Bool, true, false, cond, List, [], ◌∷◌, ◌++◌, Option, Some, None, refl, sym, ◌∙◌, ap, take, drop, get_or, length, ◌<◌, string_bytes, arith, take-append-drop}
use Rattle.std.proofs.lemmas.List.{take_at, drop-drop, take_more, length-take-le, length-drop}
use Rattle.std.proofs.lemmas.Option.{slice_get_read}
use Rattle.std.proofs.lemmas.Slice.Eq.{bytes_eq-Decides}
use Rattle.cweb_files.specs.Shelves.{Finds}
use Rattle.cweb_files.specs.declared.memory.MemoryReader.{MemoryReader}
use Rattle.std.specs.Prelude.{slice_get}
use Rattle.std.specs.Str.{bytes_eq}
use Rattle.cweb_files.specs.declared.memory.Entry.{Entry}
use Rattle.cweb_files.specs.surface.MemoryDevices.{first_of, contents_if_named, contents_in_entries, contents_from, contents_read, entry_name}

first_assoc : {A : Type 0} → (x y z : Option A) → first_of (first_of x y) z ≡ first_of x (first_of y z)
first_assoc (Some x) y z = refl
first_assoc None y z = refl

first_none : {A : Type 0} → (x : Option A) → first_of x None ≡ x
first_none (Some x) = refl
first_none None = refl

pub text_in-push : (entries : List Entry) (entry : Entry) (name : List ℕ)
    → contents_in_entries (entries ++ entry ∷ []) name
    ≡ first_of (contents_if_named entry name) (contents_in_entries entries name)
text_in-push [] entry name = sym (first_none (contents_if_named entry name))
text_in-push (e ∷ entries) entry name = grind (arith, text_in-push entries entry name, first_assoc)

pub first-if : {A : Type 0} → (b : Bool) (x : A) (y : Option A) → first_of (cond b (Some x) None) y ≡ cond b (Some x) y
first-if true x y = refl
first-if false x y = refl

pub put-texts : (old new : List Entry) (entry : Entry) (name text : List ℕ)
    → new ≡ old ++ entry ∷ [] → string_bytes entry.name ≡ name → entry.text.items ≡ text
    → contents_in_entries new ≡ (λ args. cond (bytes_eq name args) (Some text) (contents_in_entries old args))
put-texts old new entry name text is named holds = grind (arith, text_in-push, first-if)

slice_get-at : (entries : List Entry) (i : ℕ) (e : Entry) → i < length entries
    → e ≡ get_or entries i e → slice_get entries i ≡ Some e
slice_get-at entries i e lt is = slice_get_read entries (length entries) i e refl lt is

pub rest-read : (entries : List Entry) (i at n : ℕ) (e : Entry) (text copied piece : List ℕ)
    → i < length entries → e ≡ get_or entries i e → text ≡ e.text.items
    → copied ≡ take (at + n - at) (drop at text) → at + n ≤ length text
    → contents_from (slice_get entries i) at ≡ take n (copied ++ drop n piece)
    ++ contents_from (slice_get entries i) (at + n)
rest-read entries i at n e text copied piece lt is holds copy fits =
    let here : slice_get entries i ≡ Some e = slice_get-at entries i e lt is in
    let copy_is : copied ≡ take n (drop at e.text.items) = copy ∙ (λ j. take (omega_n j) (drop at (holds j))) in
    let size : length copied ≡ n =
    ap length copy_is
    ∙ length-take-le n (drop at e.text.items) (omega (arith, length-drop at e.text.items, ap length holds)) in
    ap (λ o. contents_from o at) here ∙ sym (take-append-drop n (drop at e.text.items))
    ∙ ap (λ (l : List ℕ). l ++ drop n (drop at e.text.items)) (sym (take_at copied (drop n piece) n size ∙ copy_is))
    ∙ ap (λ (l : List ℕ). take n (copied ++ drop n piece) ++ l) (drop-drop n at e.text.items)
    ∙ ap (λ o. take n (copied ++ drop n piece) ++ contents_from o (at + n)) (sym here)
  where
    omega_n : at + n - at ≡ n
    omega_n = omega arith

pub finds_more : (entries : List Entry) (i : ℕ) (e : Entry) (name : List ℕ) (found : Option MemoryReader)
    → i < length entries → e ≡ get_or entries i e
    → Finds (contents_read (contents_in_entries (take i entries)) entries) name found
    → (b : Bool) → b ≡ bytes_eq (string_bytes e.name) name
    → Finds (contents_read (contents_in_entries (take (i + 1) entries)) entries) name
    (cond b (Some (record { entry = i; at = 0 })) found)
finds_more entries i e name found lt is so_far b test =
    let longer : contents_in_entries (take (i + 1) entries) name
    ≡ first_of (contents_if_named e name) (contents_in_entries (take i entries) name) =
    ap (λ (es : List Entry). contents_in_entries es name) (take_more entries i e lt)
    ∙ ap (λ (d : Entry). contents_in_entries (take i entries ++ d ∷ []) name) (sym is)
    ∙ text_in-push (take i entries) e name in
    let found_one : contents_in_entries (take (i + 1) entries) name
    ≡ cond b (Some e.text.items) (contents_in_entries (take i entries) name) =
    longer ∙ ap (λ t. first_of (cond t (Some e.text.items) None) (contents_in_entries (take i entries) name)) (sym test)
    ∙ first-if b e.text.items (contents_in_entries (take i entries) name) in
    finds_one b found_one test
  where
    here : slice_get entries i ≡ Some e
    here = slice_get-at entries i e lt is

    finds_one : (b : Bool) → contents_in_entries (take (i + 1) entries) name
        ≡ cond b (Some e.text.items) (contents_in_entries (take i entries) name)
        → b ≡ bytes_eq (string_bytes e.name) name
        → Finds (contents_read (contents_in_entries (take (i + 1) entries)) entries) name
        (cond b (Some (record { entry = i; at = 0 })) found)
    finds_one true one same = (
      one ∙ ap (λ o. Some (contents_from o 0)) (sym here),
      ap entry_name here ∙ (bytes_eq-Decides (string_bytes e.name) name).0 (sym same),
    )
    finds_one false more same = still found so_far
      where
        still : (found : Option MemoryReader) → Finds (contents_read (contents_in_entries
            (take i entries)) entries) name
            found → Finds (contents_read (contents_in_entries (take (i + 1) entries)) entries) name found
        still None none = more ∙ none
        still (Some reader) some = (more ∙ some.0, some.1)
