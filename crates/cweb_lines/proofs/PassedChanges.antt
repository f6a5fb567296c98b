-- Lines of the change file that are taken from its buffer: of a new side and of a search.
use Rattle.cweb_lines.proofs.Common.{◌≡◌, ◌≢◌, ◌<◌, ◌+◌, ℕ, Bool, false, List, [], ◌∷◌, ◌++◌, Option, Some, None, Result, refl, sym, ◌∙◌, ap, subst, arith, length, length-append, append-nil, append_assoc, append_cancel_right, slice_range, trimmed, change_code, begun_by, IsRunOf, IsStretch, IsStretchAt, IsStretchOf, Reaches, PassesSlot, stretch_bytes, with_newlines, sources_next, lines_at, counters_of, TakenCounters, Stretch, OpenSource, AppendsPassedLines, AreReadersKnown, MergeState, EmitsLines, so_far_of, events_to_come, opened_file_names, things_of, pending_of, pending_in, change_in, IsOutside, change_lines, Line, Place, SourceLine, Thing, World, world_in, WaitingEntry, Sought, sought, sought_after, outside, Event, emitted, took, merge, seek, things_above, Changing, Change, Seeking, Waiting, LineAt, SoFar, Stack, things_in}
use Rattle.cweb_lines.specs.declared.change.code.Code.TheVariants.{OldSide as old_side, EndSide as end_side}
use Rattle.cweb_lines.specs.inner.PassingChanges.{PassesSilently, TakesChangeLine, place_next}
use Rattle.cweb_lines.proofs.AddedEvents.{takes_one}
use Rattle.cweb_lines.proofs.EmittedLinesAddUp.{yields_took}
use Rattle.cweb_lines.proofs.LinesInBuffer.{run_joined, run_of}
use Rattle.cweb_lines.proofs.Merges.{merge_emitted, state, yields_line}
use Rattle.cweb_lines.proofs.NewSideLines.{new_first, new_side_ended}
use Rattle.cweb_lines.proofs.PlainLines.{first_old}
use Rattle.cweb_lines.proofs.ReadersStayNamed.{knows_same}
use Rattle.cweb_lines.proofs.ReportsOnlyGrow.{took_faults, took_names}
use Rattle.cweb_lines.proofs.Turns.{sought_first, sought_yields}
use Rattle.cweb_lines.proofs.NextLines.{passes_silently, plain_text, silent}

unmatched : (p : Option WaitingEntry) (bytes : List ℕ) → begun_by p false bytes ≡ None
unmatched None bytes = refl
unmatched (Some entry) bytes = refl

-- A line of a new side.
module _ {R : Type 0} (run mid : MergeState R) (s : Stretch) (change : Change) (raw_line : List ℕ)
    (next : IsStretchAt None run.change s (raw_line ∷ [])) (takes : TakesChangeLine run mid s)
    (stage : run.stage ≡ Changing change) (low : run.stack.depth ≡ change.below) where
  abbrev bytes : List ℕ
  bytes = stretch_bytes run.change s

  abbrev place : Place
  place = place_next run.change

  abbrev line : Line
  line = record { bytes = bytes; place = place }

  new_yields : change_code bytes ≡ None → (t : List ℕ → Option (List ℕ)) (l : R → List ℕ)
      → EmitsLines (line ∷ []) (so_far_of run) (so_far_of mid) (events_to_come t l run) (events_to_come t l mid)
  new_yields none t l =
      let taken = takes.takes l in
      let at : LineAt = record { place = place; depth = change.depth; may_match = false } in
      yields_took (line ∷ []) (so_far_of run) (so_far_of mid) (so_far_of mid) bytes place taken.0 _ _ _
      (took_faults takes.only) (took_names takes.only)
      (new_first t l stage low takes.only takes.stack bytes place taken.0 taken.1 none) (record {
        rest = emitted line ∷ events_to_come t l mid;
        first = merge_emitted (world_in t mid.inputs) taken.0.line bytes at taken.0.is (things_of l mid) (pending_of mid)
            (change_in mid.stage (change_lines l mid)) (length (opened_file_names mid.names))
            (unmatched (pending_of mid) bytes) (plain_text s raw_line run.change next);
        yields = yields_line (so_far_of mid) (so_far_of mid) _ _ refl line refl refl refl;
      })

  pub new_passes : (room : ℕ) (buffer more : List ℕ) → change_code bytes ≡ None → length buffer < room
      → more ≡ buffer ++ bytes ++ 10 ∷ [] → AppendsPassedLines room run mid buffer more
  new_passes room buffer more none small is = record {
    lines = line ∷ [];
    yields = new_yields none;
    buffered = is ∙ append_assoc buffer bytes (10 ∷ []);
    within = λ some. omega (arith, small);
    stopped = takes.only.stopped;
    names = takes.only.names;
    counted = omega (arith, takes.counted);
    readers = takes.readers;
  }

  ends_first : change_code bytes ≡ Some end_side → (t : List ℕ → Option (List ℕ)) (l : R → List ℕ)
      → EmitsLines [] (so_far_of run) (so_far_of mid) (events_to_come t l run) (merge (world_in t mid.inputs)
      (state (seek ∷ things_above l 0 mid.stack []) None (change_lines l mid) (length (opened_file_names mid.names))))
  ends_first test t l =
      let taken = takes.takes l in
      new_side_ended t l stage low takes.only takes.stack bytes place taken.0 (change_lines l mid) taken.1 test

  -- The end of the new side.
  pub new_ends : (new : MergeState R) → change_code bytes ≡ Some end_side → new.stage ≡ Seeking
      → new.inputs ≡ mid.inputs → new.names ≡ mid.names → new.stack ≡ mid.stack → new.change ≡ mid.change
      → new.limits ≡ mid.limits → new.faults ≡ mid.faults → (t : List ℕ → Option (List ℕ)) (l : R → List ℕ)
      → EmitsLines [] (so_far_of run) (so_far_of new) (events_to_come t l run) (events_to_come t l new)
  new_ends new test seeking inputs names stack same limits faults t l =
      let ends : so_far_of mid ≡ so_far_of new = (λ i. record {
        faults = (sym faults i).items;
        names = opened_file_names (sym names i);
        count = counters_of (sym limits i);
      }) in
      let later : events_to_come t l new ≡ merge (world_in t mid.inputs) (state (seek ∷ things_above l 0 mid.stack [])
      None (change_lines l mid) (length (opened_file_names mid.names))) =
      (λ i. merge (world_in t (inputs i)) (state (things_in l (seeking i) (lines_at l (same i)) (stack i))
      (pending_in (seeking i) new.first.items) (change_in (seeking i) (lines_at l (same i)))
      (length (opened_file_names (names i))))) in
      subst (λ (so : SoFar). EmitsLines [] (so_far_of run) so (events_to_come t l run) (events_to_come t l new)) ends
      (subst (λ (es : List Event). EmitsLines [] (so_far_of run) (so_far_of mid) (events_to_come t l run) es)
      (sym later) (ends_first test t l))

  pub new_end_passes : (room : ℕ) (buffer : List ℕ) (new : MergeState R) → new.stage ≡ Seeking
      → new.inputs ≡ mid.inputs → new.names ≡ mid.names → new.stack ≡ mid.stack → new.change ≡ mid.change
      → new.limits ≡ mid.limits → new.faults ≡ mid.faults → new.stopped ≡ mid.stopped
      → change_code bytes ≡ Some end_side → AppendsPassedLines room run new buffer buffer
  new_end_passes room buffer new seeking inputs names stack same limits faults stopped test =
      passes_silently room run new buffer (new_ends new test seeking inputs names stack same limits faults)
      (stopped ∙ takes.only.stopped) (names ∙ takes.only.names)
      (omega (arith, takes.counted, ap (λ (c : TakenCounters). c.lines) limits)) (λ opened_as known.
      knows_same opened_as mid new (ap (λ (k : Stack R). k.texts) stack) same (ap opened_file_names names)
      (takes.readers opened_as known))

-- A line of a search that is no code line.
abbrev searched : World → List SourceLine → List Thing → ℕ → List Event
searched w lines things files =
    let found = sought lines None in found.events ++ merge w (state things found.entry found.rest files)

search_on : (w : World) (line : SourceLine) (lines : List SourceLine) (things : List Thing) (files : ℕ)
    → change_code line.line.bytes ≡ None
    → searched w (line ∷ lines) things files ≡ took line ∷ searched w lines things files
search_on w line lines things files none = ap (λ code.
    let found = sought_after (took line) (outside code line.line.place (λ begin. sought lines begin)) in
    found.events ++ merge w (state things found.entry found.rest files)) none

pub comment_yields : {R : Type 0} (run mid : MergeState R) (s : Stretch) → TakesChangeLine run mid s
    → run.stage ≡ Seeking → change_code (stretch_bytes run.change s) ≡ None
    → (t : List ℕ → Option (List ℕ)) (l : R → List ℕ)
    → EmitsLines [] (so_far_of run) (so_far_of mid) (events_to_come t l run) (events_to_come t l mid)
comment_yields run mid s takes seeking none t l =
    let taken = takes.takes l in
    let x = taken.0.line in
    let code = ap (λ (at : Line). change_code at.bytes) taken.0.is ∙ none in
    let things = things_above l 0 run.stack [] in
    let files = length (opened_file_names run.names) in
    let first = sought_first t l run seeking
    ∙ ap (λ (ls : List SourceLine). searched (world_in t run.inputs) ls things files) taken.1
    ∙ search_on (world_in t run.inputs) x (change_lines l mid) things files code
    ∙ (λ i. took x ∷ searched (world_in t (sym takes.only.inputs i)) (change_lines l mid)
    (things_above l 0 (sym takes.stack i) []) (length (opened_file_names (sym takes.only.names i))))
    ∙ ap (λ (es : List Event). took x ∷ es) (sym (sought_first t l mid (takes.only.stage ∙ seeking))) in
    subst (λ (es : List Event). EmitsLines [] (so_far_of run) (so_far_of mid) es (events_to_come t l mid)) (sym first)
    (takes_one (so_far_of run) (so_far_of mid) (stretch_bytes run.change s) (place_next run.change) taken.0
    (events_to_come t l mid) (took_faults takes.only) (took_names takes.only))

-- `@x` and the first old line.
pub record TwoLines {R : Type 0} (text : OpenSource R) (s u : Stretch) (x : List ℕ) (first : List ℕ) : Type 0 where
  pub raw_line : List ℕ
  pub in_place : IsRunOf None text u (x ∷ raw_line ∷ [])
  pub is : first ≡ trimmed raw_line

pub two_lines : {R : Type 0} (text : OpenSource R) (s t u : Stretch) (x : List ℕ)
    → IsStretchOf None text s (x ∷ [])
    → Reaches None text.may_match text.source.buffer.items s.end text.source.end t → t.lines ≡ 1
    → u.end ≡ t.end → u.lines ≡ s.lines + t.lines
    → TwoLines text s u x (slice_range text.source.buffer.items s.end t.text)
two_lines text s t u x first reaches one end_is lines_are = by reaches.0 reaches.1
  where
    by : (raw_lines : List (List ℕ)) → IsStretch None text.may_match text.source.buffer.items s.end t raw_lines
        → TwoLines text s u x (slice_range text.source.buffer.items s.end t.text)
    by [] second = absurd (omega (arith, second.lines, one))
    by (raw_line ∷ other ∷ lines) second = absurd (omega (arith, second.lines, one))
    by (raw_line ∷ []) second = record {
      raw_line = raw_line;
      in_place = record {
        is = run_joined None text.may_match text.source.buffer.items text.source.start s t u (x ∷ []) (raw_line ∷ [])
            (run_of None text.may_match text.source.buffer.items text.source.start s (x ∷ []) first.is)
            (run_of None text.may_match text.source.buffer.items s.end t (raw_line ∷ []) second) end_is lines_are;
        within = omega (arith, end_is, reaches.2);
      };
      is = append_cancel_right _ _ (10 ∷ []) second.text;
    }

found_two : (x first : SourceLine) (rest : List SourceLine) → change_code x.line.bytes ≡ Some old_side
    → first.line.bytes ≢ [] → change_code first.line.bytes ≡ None → sought (x ∷ first ∷ rest) None ≡ record {
      events = took x ∷ took first ∷ [];
      entry = Some (record { begin = x.line.place; first = first.line.bytes });
      rest = rest;
    }
found_two x first rest begins some none = grind (arith, first_old)

pub two_sizes : (x first : List ℕ) → length (with_newlines (x ∷ first ∷ [])) ≡ length x + length first + 2
two_sizes x first =
    omega (arith, length-append x (10 ∷ first ++ 10 ∷ []), length-append first (10 ∷ []))

pub entry_yields : {R : Type 0} (run new : MergeState R) (text : OpenSource R) (u : Stretch) (x first : List ℕ)
    → run.change ≡ Some text → IsRunOf None text u (x ∷ first ∷ [])
    → PassesSlot run.change new.change run.limits new.limits (x ∷ first ∷ []) → run.stage ≡ Seeking
    → change_code (trimmed x) ≡ Some old_side → trimmed first ≢ [] → change_code (trimmed first) ≡ None
    → new.stage ≡ Waiting (place_next (Some text)) → new.first.items ≡ trimmed first → new.inputs ≡ run.inputs
    → new.stack ≡ run.stack → new.names ≡ run.names → new.faults ≡ run.faults
    → (t : List ℕ → Option (List ℕ)) (l : R → List ℕ)
    → EmitsLines [] (so_far_of run) (so_far_of new) (events_to_come t l run) (events_to_come t l new)
entry_yields {R = R} run new text u x first was in_place passes seeking begins some none stage first_is inputs stack
    names faults t l =
    let rest = change_lines l new in
    let a : SourceLine = record {
      line = record { bytes = trimmed x; place = place_next (Some text) };
      length = length x;
      size = length x + 1;
    } in
    let b : SourceLine = record {
      line = record { bytes = trimmed first; place = record { file = text.file; line = text.line + 1 + 1 } };
      length = length first;
      size = length first + 1;
    } in
    let lines : change_lines l run ≡ a ∷ b ∷ rest = passes.takes l
    ∙ ap (λ (o : Option (OpenSource R)). sources_next o (x ∷ first ∷ []) ++ rest) was in
    let found = ap (λ (ls : List SourceLine). sought ls None) lines ∙ found_two a b rest begins some none in
    sought_yields t l run seeking new inputs stack names (record {
      yields = record {
        events = took a ∷ took b ∷ [];
        whole = ap (λ (f : Sought). f.events) found;
        emitted = refl;
        faults = ap (λ v. v.items) faults ∙ sym (append-nil _);
        names = ap opened_file_names names ∙ sym (append-nil _);
        lines_are = omega (arith, passes.few);
        bytes_are = omega (arith, passes.bytes, two_sizes x first);
        short = (in_place.is.passing.0.short, (in_place.is.passing.1.0.short, tt));
      };
      outside = subst IsOutside (sym stage) tt;
      entry = (λ i. pending_in (stage i) (first_is i)) ∙ sym (ap (λ (f : Sought). f.entry) found);
      rest = ap (λ st. change_in st rest) stage ∙ sym (ap (λ (f : Sought). f.rest) found);
    })

pub entry_passes : {R E : Type 0} (run new : MergeState R) (result : Result Bool E) (text : OpenSource R) (u : Stretch)
    (x first : List ℕ) → run.change ≡ Some text → IsRunOf None text u (x ∷ first ∷ [])
    → PassesSlot run.change new.change run.limits new.limits (x ∷ first ∷ []) → run.stage ≡ Seeking
    → change_code (trimmed x) ≡ Some old_side → trimmed first ≢ [] → change_code (trimmed first) ≡ None
    → new.first.items ≡ trimmed first
    → ((opened_as : R → List ℕ) → AreReadersKnown opened_as run → AreReadersKnown opened_as new)
    → new.stage ≡ Waiting (place_next (Some text)) → new.inputs ≡ run.inputs → new.stack ≡ run.stack
    → new.names ≡ run.names → new.faults ≡ run.faults → new.stopped ≡ run.stopped → PassesSilently run new result
entry_passes run new result text u x first was in_place passes seeking begins some none first_is readers stage inputs
    stack names faults stopped = silent run new result (entry_yields run new text u x first was in_place passes seeking
    begins some none stage first_is inputs stack names faults) stopped names (omega (arith, passes.few)) readers
