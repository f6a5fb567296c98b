-- Lines of a web that begin no change and include no file, and an entry that none of them matches.
use Rattle.cweb_lines.proofs.Common.{◌≡◌, ◌≢◌, ◌+◌, ◌&&◌, ℕ, Bool, true, false, List, [], ◌∷◌, ◌++◌, map, Option, None, Some, refl, sym, ◌∙◌, ap, append-nil, arith, length, list_any, bytes_eq, is_some, Place, SourceLine, CutLine, RawLine, Thing, numbered_lines, trimmed, raw, raws, World, is_include_line, WaitingEntry, Sought, after_x, change_code, sought, is_change_code, Code, at_entry, plain, taking, Event, took, emitted, fault, at_place, NoMatch, merge, merge_end, merge_next, followed_by, only_fault, only_lines, placed, outcome_of_events, or_parts}
use Rattle.cweb_lines.specs.declared.change.code.Code.TheVariants.{OldSide as old_side}
use Rattle.cweb_lines.proofs.Merges.{state}
use Rattle.cweb_lines.proofs.OutcomeOfEvents.{line_first}

abbrev pub texts_of : List CutLine → List (List ℕ)
texts_of lines = map (λ line. trimmed line.bytes) lines

abbrev pub place_of : ℕ → ℕ → Place
place_of file number = record { file = record { 0 = file }; line = number }

abbrev pub source_of : ℕ → ℕ → CutLine → SourceLine
source_of file number line = record {
  line = record { bytes = trimmed line.bytes; place = place_of file number };
  length = length line.bytes;
  size = line.size;
}

pub no_code : (code : Option Code) → is_some code ≡ false → code ≡ None
no_code None is = refl
no_code (Some code) is = absurd (cc)

pub first_old : (bytes : List ℕ) (code : Option Code) (begin : Place) (first : SourceLine) (rest : List SourceLine)
    (later : Option Place → Sought) → bytes ≢ [] → code ≡ None → after_x bytes code begin first rest later
    ≡ record { events = []; entry = Some (record { begin = begin; first = bytes }); rest = rest }
first_old [] code begin first rest later some none = absurd (some refl)
first_old (b ∷ bs) code begin first rest later some none = ap (λ c. after_x (b ∷ bs) c begin first rest later) none

-- The search of a change file with a comment, @x and a first old line: some lines are taken, and the entry waits.
pub record Finds (lines : List SourceLine) (entry : WaitingEntry) : Type 0 where
  pub taken : List SourceLine
  pub rest : List SourceLine
  pub is : sought lines None ≡ record { events = map took taken; entry = Some entry; rest = rest }

pub finds : (number : ℕ) (comment : List (List ℕ)) (begin first : List ℕ) (later : List (List ℕ)) (lines : List CutLine)
    → texts_of lines ≡ comment ++ (begin ∷ first ∷ later)
    → list_any is_change_code comment ≡ false → change_code begin ≡ Some old_side → first ≢ []
    → change_code first ≡ None → Finds (numbered_lines 1 number lines)
    (record { begin = place_of 1 (number + length comment); first = first })
finds number [] begin first later [] is no_codes begins some none = absurd (cc)
finds number [] begin first later (x ∷ []) is no_codes begins some none = absurd (cc)
finds number [] begin first later (x ∷ y ∷ lines) is no_codes begins some none = record {
  taken = source_of 1 number x ∷ source_of 1 (number + 1) y ∷ [];
  rest = numbered_lines 1 (number + 1 + 1) lines;
  is = grind (arith, first_old);
}
finds number (text ∷ comment) begin first later [] is no_codes begins some none = absurd (cc)
finds number (text ∷ comment) begin first later (x ∷ lines) is no_codes begins some none =
    let parts = or_parts (is_change_code text) (list_any is_change_code comment) no_codes in
    let found = finds (number + 1) comment begin first later lines (cc) parts.1 begins some none in
    record {
      taken = source_of 1 number x ∷ found.taken;
      rest = found.rest;
      is = grind (arith, no_code, found.is, parts.0);
    }

-- The lines of the web from this number on.
abbrev pub web_from : ℕ → List CutLine → List Thing
web_from number lines = raws 1 true (numbered_lines 0 number lines)

-- Lines that no entry waits for are emitted.
pub emits : (world : World) (depth : ℕ) (may_match : Bool) (file number : ℕ) (lines : List CutLine)
    (later : List Thing) (change : List SourceLine) (files : ℕ)
    → list_any is_include_line (texts_of lines) ≡ false → outcome_of_events
    (merge world (state (raws depth may_match (numbered_lines file number lines) ++ later) None change files))
    ≡ followed_by (only_lines (placed file number (texts_of lines)))
    (outcome_of_events (merge world (state later None change files)))
emits world depth may_match file number [] later change files plain_lines = refl
emits world depth may_match file number (line ∷ lines) later change files plain_lines =
    let parts = or_parts _ _ plain_lines in
    let source = source_of file number line in
    let r : RawLine = record { source = source; depth = depth; may_match = may_match } in
    let rest = raws depth may_match (numbered_lines file (number + 1) lines) ++ later in
    let s = state (raw r ∷ rest) None change files in
    ap outcome_of_events (merge_next _ s _ (ap (λ b. Some (taking source (plain b world s r rest))) parts.0))
    ∙ ap (line_first source.line) (emits world depth may_match file (number + 1) lines later change files parts.1)

pub emits_all : (world : World) (change : List SourceLine) (files number : ℕ) (lines : List CutLine)
    → list_any is_include_line (texts_of lines) ≡ false
    → outcome_of_events (merge world (state (web_from number lines) None change files))
    ≡ only_lines (placed 0 number (texts_of lines))
emits_all world change files number lines plain_lines =
    ap (λ (ts : List Thing). outcome_of_events (merge world (state ts None change files)))
    (sym (append-nil (web_from number lines)))
    ∙ emits world 1 true 0 number lines [] change files plain_lines
    ∙ ap (λ (es : List Event). followed_by (only_lines (placed 0 number (texts_of lines))) (outcome_of_events es))
    (merge_end world (state [] None change files) refl)
    ∙ ap only_lines (append-nil (placed 0 number (texts_of lines)))

-- Lines of the web that differ from the first old line are emitted, and the entry waits.
pub passes : (world : World) (entry : WaitingEntry) (change : List SourceLine) (files number : ℕ)
    (lines : List CutLine) (later : List Thing) → list_any is_include_line (texts_of lines) ≡ false
    → list_any (λ text. bytes_eq text entry.first) (texts_of lines) ≡ false
    → outcome_of_events (merge world (state (web_from number lines ++ later) (Some entry) change files))
    ≡ followed_by (only_lines (placed 0 number (texts_of lines)))
    (outcome_of_events (merge world (state later (Some entry) change files)))
passes world entry change files number [] later plain_lines others = refl
passes world entry change files number (line ∷ lines) later plain_lines others =
    let parts = or_parts _ _ plain_lines in
    let differ = or_parts _ (list_any (λ text. bytes_eq _ entry.first) (texts_of lines)) others in
    let source = source_of 0 number line in
    let r : RawLine = record { source = source; depth = 1; may_match = true } in
    let rest = web_from (number + 1) lines ++ later in
    let s = state (raw r ∷ rest) (Some entry) change files in
    ap outcome_of_events
    (merge_next world s (took source ∷ emitted source.line ∷ [], state rest (Some entry) change files)
    (ap (λ b. Some (taking source (at_entry (true && b) entry world s r rest))) differ.0
    ∙ ap (λ b. Some (taking source (plain b world s r rest))) parts.0))
    ∙ ap (line_first source.line) (passes world entry change files (number + 1) lines later parts.1 differ.1)

-- The entry waits until the end and is reported.
pub passes_all : (world : World) (entry : WaitingEntry) (change : List SourceLine) (files number : ℕ)
    (lines : List CutLine) → list_any is_include_line (texts_of lines) ≡ false
    → list_any (λ text. bytes_eq text entry.first) (texts_of lines) ≡ false
    → outcome_of_events (merge world (state (web_from number lines) (Some entry) change files))
    ≡ followed_by (only_lines (placed 0 number (texts_of lines))) (only_fault NoMatch entry.begin)
passes_all world entry change files number lines plain_lines others =
    let reported = fault (at_place NoMatch entry.begin) in
    ap (λ (ts : List Thing). outcome_of_events (merge world (state ts (Some entry) change files)))
    (sym (append-nil (web_from number lines)))
    ∙ passes world entry change files number lines [] plain_lines others
    ∙ ap (λ (es : List Event). followed_by (only_lines (placed 0 number (texts_of lines))) (outcome_of_events es))
    (merge_next world (state [] (Some entry) change files) (reported ∷ [], state [] None change files) refl
    ∙ ap (λ (es : List Event). reported ∷ es) (merge_end world (state [] None change files) refl))
