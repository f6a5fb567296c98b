-- Lines that pass through: they are taken from the stack of a merger and emitted one by one.
use Rattle.cweb_lines.proofs.Common.{rules, ◌≡◌, ◌≤◌, ◌<◌, ◌+◌, ◌-◌, ℕ, zero, suc, Bool, List, [], ◌∷◌, ◌++◌, length, map, take, Option, Some, None, refl, sym, ◌∙◌, ap, arith, length-append, length-map, Place, WaitingEntry, World, SourceLine, numbered_lines, trimmed, Event, Thing, took, emitted, raws, AllByRecursion, PassesThrough, IsRunAt, IsStretchAt, line_with_newline, lines_next, trimmed_with_newlines, sources_next, with_newlines, all_but_last, OnlyLastExceeds, stretch_bytes, matches_at, number_or_zero, source_depth, AreShort, emitted_lines, openings, size_of_lines, taken_lines, reported_faults, merge, written_lines, Stretch, OpenSource, append-nil, append_assoc, counters_of, optional_string_bytes, Line, EmitsLines, so_far_of, events_to_come, pending_of, opened_file_names, ComesNext, EmitsBufferedLines, AppendsPassedLines, PassesTop, top_of, things_in, StaysBelow, lines_at, TakenCounters, MergeState, Stack}
use Rattle.cweb_lines.proofs.LinesInBuffer.{run_at}
use Rattle.cweb_lines.proofs.Merges.{merge_emitted, state}
use Rattle.cweb_lines.proofs.TrimmedLines.{trimmed-length}
use Rattle.cweb_lines.proofs.EmittedLinesAddUp.{yields_both}
use Rattle.cweb_lines.proofs.MergeStateEvents.{coming_of, passes_in}
use Rattle.cweb_lines.proofs.WrittenLinesAddUp.{text_of-append, written-all_but_last}

abbrev pub events_of : List SourceLine → List Event
events_of [] = []
events_of (source ∷ sources) = took source ∷ emitted source.line ∷ events_of sources

pub events-emitted : (sources : List SourceLine) → emitted_lines (events_of sources) ≡ map
    (λ source. source.line) sources
events-emitted [] = refl
events-emitted (source ∷ sources) = simp (events-emitted sources)

pub events-unreported : (sources : List SourceLine) → reported_faults (events_of sources) ≡ []
events-unreported [] = refl
events-unreported (source ∷ sources) = events-unreported sources

pub events-unopened : (sources : List SourceLine) → openings (events_of sources) ≡ []
events-unopened [] = refl
events-unopened (source ∷ sources) = events-unopened sources

pub events-taken : (sources : List SourceLine) → taken_lines (events_of sources) ≡ sources
events-taken [] = refl
events-taken (source ∷ sources) = simp (events-taken sources)

merge_lines : (world : World) (entry : Option WaitingEntry) (may_match : Bool) (depth file number : ℕ)
    (lines : List (List ℕ))
    (things : List Thing) (change : List SourceLine) (files : ℕ) → AllByRecursion (PassesThrough entry may_match) lines
    → merge world (state (raws depth may_match (numbered_lines file number (map line_with_newline lines))
    ++ things) entry change files)
    ≡ events_of (numbered_lines file number (map line_with_newline lines))
    ++ merge world (state things entry change files)
merge_lines world entry may_match depth file number [] things change files passing = refl
merge_lines world entry may_match depth file number (line ∷ lines) things change files passing =
    let place : Place = record { file = record { 0 = file }; line = number } in
    let source : SourceLine = record {
      line = record { bytes = trimmed line; place = place };
      length = length line;
      size = length line + 1;
    } in
    merge_emitted world source (trimmed line) (record { place = place; depth = depth; may_match = may_match }) refl
    (raws depth may_match (numbered_lines file (number + 1) (map line_with_newline lines)) ++ things) entry change files
    passing.0.unbegun passing.0.plain
    ∙ ap (λ (es : List Event). took source ∷ emitted source.line ∷ es)
    (merge_lines world entry may_match depth file (number + 1) lines things change files passing.1)

pub merge_next_lines : {R : Type 0} (world : World) (entry : Option WaitingEntry) (slot : Option (OpenSource R))
    (s : Stretch)
    (lines : List (List ℕ)) (things : List Thing) (change : List SourceLine) (files : ℕ)
    → IsStretchAt entry slot s lines
    → merge world (state (raws (number_or_zero source_depth slot) (matches_at slot) (sources_next slot lines)
    ++ things) entry
    change files) ≡ events_of (sources_next slot lines) ++ merge world (state things entry change files)
merge_next_lines world entry None s lines things change files in_place = absurd in_place
merge_next_lines world entry (Some text) s lines things change files in_place = grind (arith, merge_lines)

numbered-length : (file number : ℕ) (lines : List (List ℕ))
    → length (numbered_lines file number (map line_with_newline lines)) ≡ length lines
numbered-length file number [] = refl
numbered-length file number (line ∷ lines) = omega (arith, numbered-length file (number + 1) lines)

numbered-size : (file number : ℕ) (lines : List (List ℕ))
    → size_of_lines (numbered_lines file number (map line_with_newline lines)) ≡ length (with_newlines lines)
numbered-size file number [] = refl
numbered-size file number (line ∷ lines) = simp length-append (omega (arith, numbered-size file (number + 1) lines))

numbered-short : (entry : Option WaitingEntry) (may_match : Bool) (file number : ℕ) (lines : List (List ℕ))
    → AllByRecursion (PassesThrough entry may_match) lines
    → AreShort (numbered_lines file number (map line_with_newline lines))
numbered-short entry may_match file number [] passing = tt
numbered-short entry may_match file number (line ∷ lines) passing =
    (passing.0.short, numbered-short entry may_match file (number + 1) lines passing.1)

numbered-text : (file number : ℕ) (lines : List (List ℕ))
    → written_lines (map (λ source. source.line) (numbered_lines file number (map line_with_newline lines)))
    ≡ trimmed_with_newlines lines
numbered-text file number [] = refl
numbered-text file number (line ∷ lines) = simp (numbered-text file (number + 1) lines)

pub next-length : {R : Type 0} (entry : Option WaitingEntry) (slot : Option (OpenSource R)) (s : Stretch)
    (lines : List (List ℕ))
    → IsRunAt entry slot s lines → length (sources_next slot lines) ≡ length lines
next-length entry None s lines in_place = absurd in_place
next-length entry (Some text) s lines in_place = numbered-length text.file.0 (text.line + 1) lines

pub next-size : {R : Type 0} (entry : Option WaitingEntry) (slot : Option (OpenSource R)) (s : Stretch)
    (lines : List (List ℕ))
    → IsRunAt entry slot s lines → size_of_lines (sources_next slot lines) ≡ length (with_newlines lines)
next-size entry None s lines in_place = absurd in_place
next-size entry (Some text) s lines in_place = numbered-size text.file.0 (text.line + 1) lines

pub next-short : {R : Type 0} (entry : Option WaitingEntry) (slot : Option (OpenSource R)) (s : Stretch)
    (lines : List (List ℕ))
    → IsRunAt entry slot s lines → AreShort (sources_next slot lines)
next-short entry None s lines in_place = absurd in_place
next-short entry (Some text) s lines in_place = numbered-short _ _ _ _ _ in_place.is.passing

-- A line is emitted without trailing blanks, so it takes no more bytes than in the buffer.
numbered-prefix : (file number n : ℕ) (lines : List (List ℕ)) → length (written_lines (take n
    (map (λ source. source.line) (numbered_lines file number (map line_with_newline lines)))))
    ≤ length (with_newlines (take n lines))
numbered-prefix file number zero lines = omega arith
numbered-prefix file number (suc n) [] = omega arith
numbered-prefix file number (suc n) (line ∷ lines) =
    grind (arith, trimmed-length, length-append, numbered-prefix file (number + 1) n lines)

pub next-within : {R : Type 0} (slot : Option (OpenSource R)) (lines : List (List ℕ)) (room : ℕ)
    → OnlyLastExceeds room lines → 0 < room
    → length (written_lines (all_but_last (lines_next slot lines))) < room
next-within None lines room within some = some
next-within (Some text) [] room within some = some
next-within (Some text) (line ∷ []) room within some = some
next-within (Some text) (line ∷ other ∷ lines) room within some =
    let all = line ∷ other ∷ lines in
    let count : length (lines_next (Some text) all) ≡ length all =
    length-map (sources_next (Some text) all) (λ source. source.line)
    ∙ numbered-length text.file.0 (text.line + 1) all in
    omega (
      arith,
      within (omega arith),
      ap (λ n. length (written_lines (take (n - 1) (lines_next (Some text) all)))) count,
      numbered-prefix text.file.0 (text.line + 1) (length all - 1) all,
    )

pub next-text : {R : Type 0} (entry : Option WaitingEntry) (slot : Option (OpenSource R)) (s : Stretch)
    (lines : List (List ℕ)) → IsStretchAt entry slot s lines
    → written_lines (lines_next slot lines) ≡ stretch_bytes slot s ++ 10 ∷ []
next-text entry None s lines in_place = absurd in_place
next-text entry (Some text) s lines in_place = numbered-text text.file.0 (text.line + 1) lines ∙ sym in_place.is.text

-- The merger after its next lines were taken.
module _ {R : Type 0} (run : MergeState R) (stack : Stack R) (limits : TakenCounters) (s : Stretch)
    (lines : List (List ℕ))
    (next : ComesNext run s lines) (passes : PassesTop run.stack stack run.limits limits lines)
    (below : StaysBelow (run.stack.depth - 1) run.stack.texts stack.texts) where
  abbrev sources : List SourceLine
  sources = sources_next (top_of run.stack) lines

  pub yields_next : (t : List ℕ → Option (List ℕ)) (l : R → List ℕ) →
      EmitsLines (lines_next (top_of run.stack) lines) (so_far_of run) (record {
        faults = run.faults.items;
        names = opened_file_names run.names;
        count =
            counters_of limits;
      }) (events_to_come t l run)
      (coming_of t (optional_string_bytes run.inputs) l run.stage run.change run.first.items
      (length (opened_file_names run.names))
      (things_in l run.stage (lines_at l run.change) stack))
  yields_next t l =
      let here = run_at (pending_of run) (top_of run.stack) s lines next.in_place in
      grind (
        arith,
        passes_in,
        merge_next_lines,
        events-emitted,
        events-unreported,
        append-nil,
        events-unopened,
        events-taken,
        next-length (pending_of run) (top_of run.stack) s lines here,
        next-size (pending_of run) (top_of run.stack) s lines here,
        next-short (pending_of run) (top_of run.stack) s lines here,
      )

pub passes_next : {R : Type 0} (room : ℕ) (old new : MergeState R) (s : Stretch) (lines : List (List ℕ))
    (buffer more : List ℕ)
    → ComesNext old s lines → EmitsBufferedLines old new (lines_next (top_of old.stack) lines)
    → more ≡ buffer ++ stretch_bytes (top_of old.stack) s ++ 10 ∷ [] → length buffer < room
    → OnlyLastExceeds (room - length buffer) lines → AppendsPassedLines room old new buffer more
passes_next room old new s lines buffer more next emits buffered small within = record {
  lines = lines_next (top_of old.stack) lines;
  yields = emits.yields;
  buffered = simp (buffered, next-text (pending_of old) (top_of old.stack) s lines next.in_place, append_assoc);
  within = λ some.
      omega (arith, small, next-within (top_of old.stack) lines (room - length buffer) within (omega (arith, small)));
  stopped = emits.stopped;
  names = emits.names;
  counted = omega (arith, emits.counted);
  readers = emits.readers;
}

pub passes_none : {R : Type 0} (room : ℕ) (run : MergeState R) (buffer : List ℕ)
    → AppendsPassedLines room run run buffer buffer
passes_none room run buffer = search rules

within_then : (room n m : ℕ) (a b : List Line) → m ≡ n + length (written_lines a)
    → (0 < length a → n + length (written_lines (all_but_last a)) < room)
    → (0 < length b → m + length (written_lines (all_but_last b)) < room)
    → 0 < length (a ++ b) → n + length (written_lines (all_but_last (a ++ b))) < room
within_then room n m a [] is first then = rw append-nil first
within_then room n m a (line ∷ b) is first then = grind (arith, written-all_but_last)

pub passes_then : {R : Type 0} (room : ℕ) (a b c : MergeState R) (x y z : List ℕ) → AppendsPassedLines room a b x y
    → AppendsPassedLines room b c y z → AppendsPassedLines room a c x z
passes_then room a b c x y z first then = record {
  lines = first.lines ++ then.lines;
  yields = λ t l. yields_both first.lines then.lines _ _ _ _ _ _ (first.yields t l) (then.yields t l);
  buffered = simp (then.buffered, first.buffered, text_of-append, append_assoc);
  within = within_then room (length x) (length y) first.lines then.lines
      (ap (λ (t : List ℕ). length t) first.buffered ∙ length-append x (written_lines first.lines))
      first.within then.within;
  stopped = then.stopped ∙ first.stopped;
  names = then.names ∙ first.names;
  counted = omega (arith, first.counted, then.counted);
  readers = λ opened_as known. then.readers opened_as (first.readers opened_as known);
}
