-- An include line is replaced by the merged lines of its file.
use Rattle.cweb_lines.proofs.Common.{LineAt, sym, ◌≡◌, ◌≢◌, ◌<◌, ◌+◌, ℕ, Bool, true, List, [], ◌∷◌, ◌++◌, None, refl, ◌∙◌, ap, append-nil, subst, arith, length, AllByRecursion, SourceLine, lines_in, World, IncludeLinesAreReplaced, LinesComeApart, MergeOutcome, followed_by, outcome_of_events, outcome_of_lines, Event, Thing, opening, raws, took, openings, merge, merge_yields, merge_end}
use Rattle.cweb_lines.proofs.IndependentLines.{IsNoSearch, prefix, raws_seek_not}
use Rattle.cweb_lines.proofs.Merges.{state, merge_emitted, merge_no_name, merge_too_deep, merge_not_there, merge_opens}
use Rattle.cweb_lines.proofs.SourceStacks.{raws-append}
use Rattle.cweb_lines.proofs.OutcomeOfEvents.{name_first, seen-append}

pub raws_seek_none : (depth : ℕ) (may_match : Bool) (lines : List SourceLine)
    → AllByRecursion IsNoSearch (raws depth may_match lines)
raws_seek_none depth may_match lines = subst
    (AllByRecursion IsNoSearch) (append-nil (raws depth may_match lines)) (raws_seek_not depth may_match lines [] tt)

pub in_two : (world : World) (things later : List Thing) (change : List SourceLine) (files : ℕ)
    → AllByRecursion IsNoSearch things →
    let first = merge world (state things None change files) in
    merge world (state (things ++ later) None change files)
    ≡ first ++ merge world (state later None change (files + length (openings first)))
in_two world things later change files none =
    let s = state things None change files in
    let first = merge_yields world s in
    prefix world later change first.0 files things (merge world s) none first.1

-- One line, which begins no change, and the event that follows it.
module _ (world : World) (depth files : ℕ) (line : SourceLine) where
  abbrev at : LineAt
  at = record { place = line.line.place; depth = depth; may_match = true }

  abbrev comes : Event → Type 0
  comes event = merge world (state (raws depth true (line ∷ [])) None [] files)
      ≡ took line ∷ event ∷ merge world (state [] None [] files)

  one : (event : Event) → comes event → outcome_of_lines world depth files (line ∷ []) ≡ outcome_of_events (event ∷ [])
  one event is = ap outcome_of_events is
      ∙ ap (λ (es : List Event). outcome_of_events (took line ∷ event ∷ es))
      (merge_end world (state [] None [] files) refl)

some_bytes : (bytes : List ℕ) → bytes ≢ [] → 0 < length bytes
some_bytes [] some = absurd (some refl)
some_bytes (b ∷ bs) some = omega arith

pub lines_apart : LinesComeApart
lines_apart = record {
  whole = λ world web. refl;
  apart = grind (arith, raws-append, in_two, raws_seek_none, seen-append);
  plain = λ world depth files line plain_line. one world depth files line _
      (merge_emitted world line line.line.bytes (at world depth files line) refl [] None [] files refl plain_line);
  no_name = λ world depth files line include none. one world depth files line _
      (merge_no_name world line line.line.bytes (at world depth files line) refl [] None [] files refl include none);
  too_deep = λ world depth files line include named deep. one world depth files line _
      (merge_too_deep world line line.line.bytes (at world depth files line) refl [] None [] files refl include
      (some_bytes _ named) deep);
  not_there = λ world depth files line include named shallow gone. one world depth files line _
      (merge_not_there world line line.line.bytes (at world depth files line) refl [] None [] files refl include
      (some_bytes _ named) shallow (sym gone));
}

pub include_lines : IncludeLinesAreReplaced
include_lines world depth files before after line name text includes shallow =
    let first = merge world (state (raws depth true before) None [] files) in
    let file = files + length (openings first) in
    let lines = raws (depth + 1) true (lines_in file text) in
    let rest = raws depth true after in
    let inside = merge world (state lines None [] (file + 1)) in
    let last = merge world (state rest None [] (file + 1 + length (openings inside))) in
    ap
    (λ (ts : List Thing). outcome_of_events (merge world (state ts None [] files)))
    (raws-append depth true before (line ∷ after))
    ∙ ap outcome_of_events
    (in_two world (raws depth true before) (raws depth true (line ∷ after)) [] files (raws_seek_none depth true before))
    ∙ ap (λ (es : List Event). outcome_of_events (first ++ es))
    (merge_opens world line line.line.bytes (at world depth files line) refl rest None [] file refl name text
    includes.include (some_bytes _ includes.named) shallow (sym includes.found)
    ∙ ap (λ (es : List Event). took line ∷ opening name ∷ es)
    (in_two world lines rest [] (file + 1) (raws_seek_none (depth + 1) true (lines_in file text))))
    ∙ seen-append first (took line ∷ opening name ∷ (inside ++ last))
    ∙ ap (λ (later : MergeOutcome). followed_by (outcome_of_events first) (name_first name later))
    (seen-append inside last)
