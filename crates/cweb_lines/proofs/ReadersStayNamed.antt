-- Readers stay opened under the names of their files, and what is blamed.
use Rattle.cweb_lines.proofs.Common.{rules, ◌≡◌, ℕ, List, opened_file_names, AreReadersKnown, OnlyReports, MergeState, arith, ◌≤◌, ◌<◌, zero, suc, [], ◌∷◌, ◌++◌, Option, Some, None, refl, sym, ◌∙◌, ap, length, get_or, Err, set, Stop, Result, FileId, files_up_to, stop_for, maximum_of, LineFault, Read, OpenSource}
use Rattle.std.proofs.lemmas.List.{get_or_default, get_or_append_left}
use Rattle.std.proofs.lemmas.Option.{same_Some}
use Rattle.cweb_lines.specs.surface.OpenSources.{AreReadersNamed, IsReaderNamed, blaming, shelf_after, number_or_zero}
use Rattle.cweb_lines.specs.inner.LineCalls.{KeepsReaderName, KeepsReaderNames, after_reading}
use Rattle.cweb_files.specs.Shelves.{Observed, ShelfContents, ShelfModel, failed_read}
use Rattle.cweb_lines.proofs.SourceStacks.{most_at}

-- The readers of a merger stay opened under the names of their files.
pub knows_same : {R : Type 0} (opened_as : R → List ℕ) (old new : MergeState R) → new.stack.texts ≡ old.stack.texts
    → new.change ≡ old.change → opened_file_names new.names ≡ opened_file_names old.names
    → AreReadersKnown opened_as old → AreReadersKnown opened_as new
knows_same opened_as old new texts change names known = search rules

pub knows_only : {R : Type 0} {opened_as : R → List ℕ} {old new : MergeState R} → OnlyReports old new
    → AreReadersKnown opened_as old → AreReadersKnown opened_as new
knows_only {opened_as = f} {old = old} {new = new} only known = grind (arith, knows_same)

module _ {R : Type 0} (opened_as : R → List ℕ) (names : List (List ℕ)) where
  pub named_at : (texts : List (Option (OpenSource R))) (at : ℕ) (d : Option (OpenSource R)) → at < length texts
      → AreReadersNamed opened_as names texts → IsReaderNamed opened_as names (get_or texts at d)
  named_at texts at d within each = grind (arith, get_or_default)

  pub named_set : (texts : List (Option (OpenSource R))) (at : ℕ) (slot : Option (OpenSource R))
      → AreReadersNamed opened_as names texts → IsReaderNamed opened_as names slot
      → (place : ℕ) → IsReaderNamed opened_as names (get_or (set texts at slot) place None)
  named_set [] at slot each top place = each place
  named_set (text ∷ texts) zero slot each top zero = top
  named_set (text ∷ texts) zero slot each top (suc place) = each (suc place)
  named_set (text ∷ texts) (suc at) slot each top zero = each zero
  named_set (text ∷ texts) (suc at) slot each top (suc place) = named_set texts at slot (λ p. each (suc p)) top place

  slot_more : (more : List (List ℕ)) (slot : Option (OpenSource R)) → number_or_zero files_up_to slot ≤ length names
      → IsReaderNamed opened_as names slot → IsReaderNamed opened_as (names ++ more) slot
  slot_more more None known is = tt
  slot_more more (Some text) known is = is ∙ sym (get_or_append_left names more [] text.file.0 (omega (arith, known)))

  pub named_more : (more : List (List ℕ)) (texts : List (Option (OpenSource R)))
      → maximum_of files_up_to texts ≤ length names
      → AreReadersNamed opened_as names texts → AreReadersNamed opened_as (names ++ more) texts
  named_more more texts known each = grind (arith, slot_more, most_at)

  pub change_more : (more : List (List ℕ)) (slot : Option (OpenSource R))
      → number_or_zero files_up_to slot ≤ length names
      → IsReaderNamed opened_as names slot → IsReaderNamed opened_as (names ++ more) slot
  change_more more slot known is = slot_more more slot known is

-- A slot of the stack is replaced.
module _ {R A : Type 0} (old new : ShelfModel R) (result : Result A Stop) (texts : List (Option (OpenSource R)))
    (at : ℕ)
    (d : Option (OpenSource R)) (within : at < length texts) where
  pub names_set : (slot : Option (OpenSource R)) → KeepsReaderName old new (get_or texts at d) slot result
      → KeepsReaderNames old new texts (set texts at slot) result
  names_set slot named = λ seen is names each.
      let top = named seen is names (named_at seen.opened_as names texts at d within each) in
      (named_set seen.opened_as names texts at slot each top.0, top.1)

-- Names of readers that are equal, if they are known, are blamed alike.
module _ {R : Type 0} (shelf : ShelfModel R) (reader : R) where
  pub blames_as : (name : List ℕ) → Observed shelf (λ seen. seen.opened_as reader ≡ name)
      → failed_read reader shelf ≡ blaming name shelf
  blames_as name same = grind arith

  pub blames_known : (seen : ShelfContents R) → shelf.contents ≡ Some seen → (name : List ℕ)
      → seen.opened_as reader ≡ name → failed_read reader shelf ≡ blaming name shelf
  blames_known seen is name named = grind (arith, blames_as, same_Some)

  -- Some name is blamed.
  pub blames_some : (name : List ℕ) × (failed_read reader shelf ≡ blaming name shelf)
  blames_some = by shelf.contents refl
    where
      by : (contents : Option (ShelfContents R)) → shelf.contents ≡ contents
          → (name : List ℕ) × (failed_read reader shelf ≡ blaming name shelf)
      by None is = ([], blames_as [] (λ seen some. absurd (cc)))
      by (Some seen) is = (seen.opened_as reader, blames_known seen is (seen.opened_as reader) refl)

-- A fault of taking a line of this reader, as a stop.
pub line_blames : {R : Type 0} (A : Type 0) (fault : LineFault) (stop : Stop) (file : FileId) (reader : R)
    (old new : ShelfModel R) (name : FileId → List ℕ) → stop ≡ stop_for fault file
    → new ≡ after_reading {A = A} reader (Err fault) old
    → failed_read reader old ≡ blaming (name file) old → new ≡ shelf_after name stop old
line_blames A Read stop file reader old new name is read named = grind arith
line_blames A _ stop file reader old new name is read named = read ∙ sym (ap (λ s. shelf_after name s old) is)
