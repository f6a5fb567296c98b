-- Lines are read before they are taken.
use Rattle.cweb_files.specs.Shelves.{Observed, ShelfContents, ShelfModel}
use Rattle.cweb_scan.proofs.Common.{◌≡◌, ◌≤◌, ◌<◌, ℕ, ◌+◌, ◌*◌, List, [], ◌∷◌, ◌++◌, length, Option, None, Some, refl, ap, sym, ◌∙◌, subst, arith, append_assoc, length-append, All-append, All-push, LooksAhead, TakesLines, span_bytes, Line, Event, SoFar, so_far_of, opened_file_names, lines_next, with_newlines, top_of, Ahead, MergeState, OpenSource, ReaderModel, cost, read_after, web_size, read_lines, AreLinesBelow, HasTaken, yields_both}
use Rattle.cweb_lines.specs.surface.MergeProgress.{EmitsLines}
use Rattle.cweb_lines.proofs.LinesInBuffer.{standing-append}
use Rattle.cweb_scan.specs.inner.MatchSteps.{ReadsLines}
use Rattle.cweb_scan.proofs.Scans.{web_size-append, wider}

none : {R : Type 0} (slot : Option (OpenSource R)) → lines_next slot [] ≡ []
none None = refl
none (Some text) = refl

-- No line yet.
pub read_nothing : {R : Type 0} (run : MergeState R) (pending : ReaderModel) → ReadsLines run [] pending pending
read_nothing run pending = grind (arith, none)

-- One more line.
pub read_more : {R : Type 0} (run : MergeState R) (lines : List (List ℕ)) (ahead : Ahead) (old mid new : ReaderModel)
    → (looks : LooksAhead run lines ahead) → ReadsLines run lines old mid → ((more : List Line) →
    read_after new more ≡ read_after mid (record { bytes = span_bytes run ahead.line; place = ahead.line.place }
    ∷ more))
    → cost new ≤ cost mid + 3 * (length (span_bytes run ahead.line) + 1)
    → ReadsLines run (lines ++ looks.raw ∷ []) old new
read_more run lines ahead old mid new looks first reads adds = record {
  read = grind (arith, append_assoc);
  below = subst (AreLinesBelow (length (opened_file_names run.names))) (sym looks.emitted)
      (All-push (λ (line : Line). line.place.file.0 < length (opened_file_names run.names)) before line first.below
      looks.known);
  few = omega (
    arith,
    ap web_size looks.emitted,
    web_size-append before (line ∷ []),
    first.few,
    looks.size,
    size,
    length-append lines (looks.raw ∷ []),
  );
  adds = omega (arith, adds, first.adds, looks.size, size, length-append lines (looks.raw ∷ []));
}
  where
    line : Line
    line = record { bytes = span_bytes run ahead.line; place = ahead.line.place }

    before : List Line
    before = lines_next (top_of run.stack) lines

    size : length (with_newlines (lines ++ looks.raw ∷ [])) ≡ length (with_newlines lines) + (length looks.raw + 1)
    size = omega (
      arith,
      ap (λ (l : List ℕ). length l) (standing-append lines (looks.raw ∷ [])),
      length-append (with_newlines lines) (looks.raw ++ 10 ∷ []),
      length-append looks.raw (10 ∷ []),
    )

-- The lines that were read are taken.
pub read_taken : {R : Type 0} (old new : MergeState R) (lines : List (List ℕ)) (shelf : ShelfModel R) (first : SoFar)
    (all now later : ShelfContents R → List Event) (pending next : ReaderModel) → TakesLines lines old new
    → ReadsLines old lines pending next
    → Observed shelf (λ seen. EmitsLines (lines_next (top_of old.stack) lines) (so_far_of old) (so_far_of new)
    (now seen) (later seen))
    → HasTaken shelf first (so_far_of old) all now pending → HasTaken shelf first (so_far_of new) all later next
read_taken old new lines shelf first all now later pending next takes reads yields taken = record {
  lines = taken.lines ++ more_lines;
  read_is = λ more. reads.read more ∙ taken.read_is (more_lines ++ more)
      ∙ ap read_lines (sym (append_assoc taken.lines more_lines more));
  below = All-append (λ (line : Line). line.place.file.0 < length (opened_file_names new.names)) taken.lines more_lines
      (wider (length (opened_file_names old.names))
      (length (opened_file_names new.names)) taken.lines names taken.below)
      (wider (length (opened_file_names old.names))
      (length (opened_file_names new.names)) more_lines names reads.below);
  few = omega (arith, web_size-append taken.lines more_lines, taken.few, reads.few, takes.bytes, takes.count);
  yields = grind (arith, yields_both);
}
  where
    more_lines : List Line
    more_lines = lines_next (top_of old.stack) lines

    names : length (opened_file_names old.names) ≤ length (opened_file_names new.names)
    names = omega (arith, ap (λ n. length (opened_file_names n)) takes.emitted.names)
