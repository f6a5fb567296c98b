-- A change file without entries changes nothing but the numbers of files.
use Rattle.cweb_lines.proofs.Common.{◌≡◌, ◌<◌, ◌+◌, ℕ, zero, suc, Bool, true, false, List, [], ◌∷◌, ◌++◌, map, None, Some, Option, refl, sym, ◌∙◌, ap, arith, option_map, map-append, nat_lt, AllByRecursion, list_any, SourceLine, CutLine, sought, lines_in, lines, numbered_lines, cut_lines, is_include_line, include_name, found_at, Found, World, is_change_code, ChangeFilesWithoutEntriesChangeNothing, file_with_change, fault_renumbered, line_renumbered, renumbered, outcome_of_events, Event, RawLine, Thing, fault, emitted, opening, took, included, obeyed, open_include, onto, plain, passed, raw, raws, reported, run_steps, seek, started, merge, merge_yields, merge-run_steps, or_parts, NoName, TooDeep, NotThere, OPEN_FILES, at_place}
use Rattle.cweb_lines.proofs.IncludeLaws.{raws_seek_none}
use Rattle.cweb_lines.proofs.IndependentLines.{IsNoSearch, raws_seek_not}
use Rattle.cweb_lines.proofs.Merges.{state}
use Rattle.cweb_lines.proofs.OutcomeOfEvents.{fault_first, line_first, name_first, seek_unseen}
use Rattle.cweb_lines.proofs.PlainLines.{no_code, source_of, texts_of}

finds_none : (number : ℕ) (lines : List CutLine) → list_any is_change_code (texts_of lines) ≡ false
    → sought (numbered_lines 1 number lines) None
    ≡ record { events = map took (numbered_lines 1 number lines); entry = None; rest = [] }
finds_none number [] none = refl
finds_none number (line ∷ lines) none =
    let parts = or_parts _ (list_any is_change_code (texts_of lines)) none in
    simp (no_code _ parts.0, finds_none (number + 1) lines parts.1)

-- Lines, things and events with the file numbers of a run that has a change file.
abbrev source_from : SourceLine → SourceLine
source_from source =
    record { line = line_renumbered file_with_change source.line; length = source.length; size = source.size }

abbrev raw_from : RawLine → RawLine
raw_from r = record { source = source_from r.source; depth = r.depth; may_match = r.may_match }

abbrev thing_from : Thing → Thing
thing_from seek = seek
thing_from (raw r) = raw (raw_from r)
thing_from (reported f) = reported (fault_renumbered file_with_change f)
thing_from (passed line) = passed (source_from line)

abbrev event_from : Event → Event
event_from (took source) = took (source_from source)
event_from (emitted line) = emitted (line_renumbered file_with_change line)
event_from (fault f) = fault (fault_renumbered file_with_change f)
event_from (opening name) = opening name

raws_from : (depth : ℕ) (may_match : Bool) (file number : ℕ) (lines : List CutLine)
    → map thing_from (raws depth may_match (numbered_lines file number lines))
    ≡ raws depth may_match (numbered_lines (file_with_change file) number lines)
raws_from depth may_match file number [] = refl
raws_from depth may_match file number (line ∷ lines) =
    ap (λ (ts : List Thing). raw (record {
      source = source_of (file_with_change file) number line;
      depth = depth;
      may_match = may_match;
    }) ∷ ts) (raws_from depth may_match file (number + 1) lines)

next_file : (files : ℕ) → 0 < files → file_with_change (files + 1) ≡ file_with_change files + 1
next_file zero some = absurd (omega arith)
next_file (suc files) some =
    let more : suc files + 1 ≡ suc (suc files) = omega arith in ap file_with_change more ∙ omega arith

onto_from : (first : List Event) (later : Option (List Event))
    → onto (map event_from first) (option_map (λ es. map event_from es) later)
    ≡ option_map (λ es. map event_from es) (onto first later)
onto_from first None = refl
onto_from first (Some events) = ap Some (sym (map-append event_from first events))

module _ (world : World) where
  abbrev run : ℕ → ℕ → List Thing → Option (List Event)
  run n files things = run_steps n world (state things None [] files)

  abbrev GoesAlike : ℕ → Type 0
  GoesAlike n = (files : ℕ) (things : List Thing) → 0 < files → AllByRecursion IsNoSearch things
      → run n (file_with_change files) (map thing_from things)
      ≡ option_map (λ es. map event_from es) (run n files things)

  module _ (n : ℕ) (each : GoesAlike n) where
    on : (first : List Event) (files : ℕ) (things : List Thing) → 0 < files → AllByRecursion IsNoSearch things
        → onto (map event_from first) (run n (file_with_change files) (map thing_from things))
        ≡ option_map (λ es. map event_from es) (onto first (run n files things))
    on first files things some none =
        ap (onto (map event_from first)) (each files things some none) ∙ onto_from first (run n files things)

    module _ (r : RawLine) (files : ℕ) (some : 0 < files) (things : List Thing)
        (none : AllByRecursion IsNoSearch things) where
      by_found : (found : Option Found) →
          let now = obeyed found (state (raw r ∷ things) None [] files) r things in
          let next = obeyed found (state (raw (raw_from r) ∷ map thing_from things) None [] (file_with_change files))
          (raw_from r) (map thing_from things) in
          onto (took (source_from r.source) ∷ next.0) (run_steps n world next.1)
          ≡ option_map (λ es. map event_from es) (onto (took r.source ∷ now.0) (run_steps n world now.1))
      by_found None = on (took r.source ∷ fault (at_place NotThere r.source.line.place) ∷ []) files things some none
      by_found (Some found) =
          let inside = raws (r.depth + 1) r.may_match (lines_in files found.1) in
          let moved : map thing_from (inside ++ things) ≡ raws (r.depth + 1) r.may_match
          (lines_in (file_with_change files) found.1) ++ map thing_from things =
          map-append thing_from inside things
          ∙ ap (λ (ts : List Thing). ts ++ map thing_from things)
          (raws_from (r.depth + 1) r.may_match files 1 (cut_lines found.1)) in
          (λ i. onto (took (source_from r.source) ∷ opening found.0 ∷ [])
          (run n (sym (next_file files some) i) (sym moved i)))
          ∙ on (took r.source ∷ opening found.0 ∷ []) (files + 1) (inside ++ things) (omega arith)
          (raws_seek_not (r.depth + 1) r.may_match (lines_in files found.1) things none)

      by_room : (room : Bool) (name : List ℕ) →
          let now = open_include room world name (state (raw r ∷ things) None [] files) r things in
          let next = open_include room world name
          (state (raw (raw_from r) ∷ map thing_from things) None [] (file_with_change files))
          (raw_from r) (map thing_from things) in
          onto (took (source_from r.source) ∷ next.0) (run_steps n world next.1)
          ≡ option_map (λ es. map event_from es) (onto (took r.source ∷ now.0) (run_steps n world now.1))
      by_room false name = on (took r.source ∷ fault (at_place TooDeep r.source.line.place) ∷ []) files things some none
      by_room true name = by_found (found_at world name)

      by_name : (name : List ℕ) →
          let now = included name world (state (raw r ∷ things) None [] files) r things in
          let next = included name world
          (state (raw (raw_from r) ∷ map thing_from things) None [] (file_with_change files))
          (raw_from r) (map thing_from things) in
          onto (took (source_from r.source) ∷ next.0) (run_steps n world next.1)
          ≡ option_map (λ es. map event_from es) (onto (took r.source ∷ now.0) (run_steps n world now.1))
      by_name [] = on (took r.source ∷ fault (at_place NoName r.source.line.place) ∷ []) files things some none
      by_name (b ∷ bs) = by_room (nat_lt r.depth OPEN_FILES) (b ∷ bs)

      by_line : (include : Bool) →
          let now = plain include world (state (raw r ∷ things) None [] files) r things in
          let next = plain include world
          (state (raw (raw_from r) ∷ map thing_from things) None [] (file_with_change files))
          (raw_from r) (map thing_from things) in
          onto (took (source_from r.source) ∷ next.0) (run_steps n world next.1)
          ≡ option_map (λ es. map event_from es) (onto (took r.source ∷ now.0) (run_steps n world now.1))
      by_line false = on (took r.source ∷ emitted r.source.line ∷ []) files things some none
      by_line true = by_name (include_name r.source.line.bytes)

  goes : (n : ℕ) → GoesAlike n
  goes zero files things some none = refl
  goes (suc n) files [] some none = refl
  goes (suc n) files (seek ∷ things) some none = absurd none.0
  goes (suc n) files (reported f ∷ things) some none = on n (goes n) (fault f ∷ []) files things some none.1
  goes (suc n) files (passed line ∷ things) some none = on n (goes n) (took line ∷ []) files things some none.1
  goes (suc n) files (raw r ∷ things) some none =
      by_line n (goes n) r files some things none.1 (is_include_line r.source.line.bytes)

seen_from : (events : List Event)
    → outcome_of_events (map event_from events) ≡ renumbered file_with_change (outcome_of_events events)
seen_from [] = refl
seen_from (took source ∷ events) = seen_from events
seen_from (emitted line ∷ events) = ap (line_first (line_renumbered file_with_change line)) (seen_from events)
seen_from (fault f ∷ events) = ap (fault_first (fault_renumbered file_with_change f)) (seen_from events)
seen_from (opening name ∷ events) = ap (name_first name) (seen_from events)

pub empty_changes : ChangeFilesWithoutEntriesChangeNothing
empty_changes world web change none =
    let things = raws 1 true (lines_in 0 web) in
    let alone = merge_yields world (started web None) in
    let events = merge world (started web None) in
    seek_unseen world things (lines_in 1 change) 2 (lines_in 1 change) None []
    (finds_none 1 (cut_lines change) none)
    ∙ ap outcome_of_events (merge-run_steps alone.0 world (state things None [] 2) (map event_from events)
    ((λ i. run_steps alone.0 world (state (sym (raws_from 1 true 0 1 (cut_lines web)) i) None [] 2))
    ∙ goes world alone.0 1 things (omega arith) (raws_seek_none 1 true (lines_in 0 web))
    ∙ ap (option_map (λ es. map event_from es)) alone.1))
    ∙ seen_from events
