-- What a merge that began has opened and reported, and what is known of a shelf that was read.
use Rattle.cweb_tools.proofs.Common.{◌≤◌, ◌≡◌, ℕ, List, ◌∷◌, ◌++◌, refl, sym, ◌∙◌, ap, append-nil, append_assoc, arith, Option, names_found, World, Found, Event, SoFar, EmitsLines, begun_with, ReportsPrefix, emitted_lines, reported_faults, openings, taken_lines, IsWithinLimits, BeginsMerge, LINES, BYTES, WebNames, merging, found_course, [], ◌⊎◌, inl, inr, IsSome, Some, None, Stop, subject, contents_of, failed_reads}
use Rattle.cweb_lines.proofs.EmittedLinesAddUp.{openings-append}
use Rattle.std.specs.Prelude.{Err}
use Rattle.cweb_files.specs.Shelves.{Observed, ShelfModel}
use Rattle.cweb_lines.specs.surface.OpenSources.{BlamesFile, ReadsShelf, name_of_file}
use Rattle.cweb_tools.proofs.Broken.{shelf_after}

-- The course of a run that begins a merge.
pub begins_course : (world : World) (names : WebNames) (found : Option Found) (changes : Option (Option Found))
    {first : SoFar} {all : List Event} (begins : BeginsMerge world found changes first all)
    → found_course world names found changes ≡ merging (begins.name ∷ names_found begins.change) all
begins_course world names found changes begins = rw (begins.there, begins.changes_there, begins.whole) refl

-- The opened names so far are among those of the whole merge.
pub opened_by : (first : List (List ℕ)) {old new : SoFar} {events : List Event}
    → old ≡ begun_with first → ReportsPrefix old new events
    → (files : List (List ℕ)) → files ≡ new.names → (rest : List (List ℕ)) × (first ++ openings events ≡ files ++ rest)
opened_by first {events} began prefix files is = (
  openings prefix.later,
  ap (λ (es : List Event). first ++ openings es) prefix.whole
      ∙ ap (λ (ns : List (List ℕ)). first ++ ns) (openings-append prefix.events prefix.later)
      ∙ sym (append_assoc first (openings prefix.events) (openings prefix.later))
      ∙ ap (λ (ns : List (List ℕ)). ns ++ openings prefix.later)
      (sym (is ∙ prefix.names ∙ ap (λ (s : SoFar). s.names ++ openings prefix.events) began)),
)

-- The events of a merge that began with these files.
module _ (first : List (List ℕ)) (all : List Event) (old new : SoFar)
    (began : old ≡ begun_with first) (yields : EmitsLines (emitted_lines all) old new all []) where
  came : yields.events ≡ all
  came = sym (append-nil yields.events) ∙ sym yields.whole

  pub names_reported : new.names ≡ first ++ openings all
  names_reported = yields.names ∙ (λ i. (began i).names ++ openings (came i))

  pub faults_reported : new.faults ≡ reported_faults all
  faults_reported = yields.faults ∙ (λ i. (began i).faults ++ reported_faults (came i))

  pub limits_kept : new.count.lines ≤ LINES → new.count.bytes ≤ BYTES → IsWithinLimits (taken_lines all)
  limits_kept few small = grind (arith, came)

-- Contents are known or not.
pub either : {A : Type 0} (contents : Option A) → IsSome contents ⊎ (IsSome contents → ⊥)
either (Some x) = inl refl
either None = inr (λ is. cc)

module _ {R : Type 0} where
  -- Known contents are those of an observable shelf.
  pub observed : (shelf : ShelfModel R) → IsSome (failed_reads shelf).blamed → shelf.contents ≡ Some (contents_of shelf)
  observed shelf some = grind arith

  -- A stop of reading blames its file.
  pub left_by : (A : Type 0) (stop : Stop) (names : List (List ℕ)) (old new : ShelfModel R)
      → ReadsShelf {A = A} old new (Err stop)
      → Observed old (λ seen. BlamesFile {A = A} (name_of_file names) old new (Err stop))
      → failed_reads new ≡ shelf_after stop (subject names stop) (failed_reads old)
  left_by A stop names old new reads blames = grind arith
