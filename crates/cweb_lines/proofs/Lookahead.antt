-- Lookahead at consecutive lines in the buffer.
use Rattle.cweb_lines.proofs.Common.{rules, subst, sym, ◌≡◌, ◌≤◌, ◌<◌, ◌+◌, ℕ, List, [], ◌∷◌, ◌++◌, length, map, Option, None, Some, refl, ◌∙◌, ap, arith, append_cancel_right, length-append, length-map, map-append, slice_range, IfSome, Place, FitsLimits, FitsLimitsAt, IsAhead, LooksAhead, LooksAheadIn, WaitingEntry, BorrowsLines, line_span_at, Line, SourceLine, numbered_lines, trimmed, pending_of, pending_in, so_far_of, ComesNext, EmitsBufferedLines, HasRoomFor, IsStretch, Reaches, IsStretchAt, IsStretchOf, line_with_newline, lines_next, top_of, IsSettled, floor_of, TakenCounters, LINES, Ahead, LineSpan, Stretch, MergeState, OpenSource, common_steps}
use Rattle.cweb_lines.proofs.ReportsOnlyGrow.{grows_reported, reported_emitted, reported_then}
use Rattle.cweb_lines.proofs.SourceStacks.{most_at}
use Rattle.cweb_lines.proofs.LinesInBuffer.{few_lines, joined, numbered-append}
use Rattle.cweb_lines.proofs.EmittedLinesAddUp.{yields_both}
use Rattle.cweb_lines.proofs.TrimmedLines.{trimmed-length, trimmed-line}

-- One line after others.
module _ {R : Type 0} (entry : Option WaitingEntry) (text : OpenSource R) (lines : List (List ℕ)) (raw : List ℕ)
    (s : Stretch)
    (ahead : Ahead) (is : IsStretch entry text.may_match text.source.buffer.items ahead.line.from s (raw ∷ []))
    (within : s.end ≤ text.source.end) (to : ahead.line.to ≡ s.text)
    (place : ahead.line.place ≡ record { file = text.file; line = text.line + 1 + length lines })
    (in_place : IsStretchOf entry text ahead.stretch (lines ++ raw ∷ [])) where
  bytes : slice_range text.source.buffer.items ahead.line.from ahead.line.to ≡ trimmed raw
  bytes = ap (slice_range text.source.buffer.items ahead.line.from) to ∙ append_cancel_right _ _ (10 ∷ []) is.text

  abbrev line_of : SourceLine → Line
  line_of source = source.line

  abbrev here : ℕ → Place
  here n = record { file = text.file; line = n }

  abbrev sources : List SourceLine
  sources = numbered_lines text.file.0 (text.line + 1) (map line_with_newline lines)

  emitted : lines_next (Some text) (lines ++ raw ∷ []) ≡ lines_next (Some text) lines ++ record {
    bytes = slice_range text.source.buffer.items ahead.line.from ahead.line.to;
    place = ahead.line.place;
  } ∷ []
  emitted = simp (map-append, numbered-append, length-map, bytes, place)

  pub looks_one : LooksAheadIn entry (Some text) lines ahead
  looks_one = grind (arith, emitted, bytes, trimmed-line, trimmed-length, length-append)

pub looks_first : {R : Type 0} (entry : Option WaitingEntry) (slot : Option (OpenSource R)) (s : Stretch)
    (line : LineSpan)
    (lines : List (List ℕ)) → IsStretchAt entry slot s lines → s.lines ≡ 1 → Some line ≡ line_span_at slot s
    → LooksAheadIn entry slot [] (record { line = line; stretch = s })
looks_first entry None s line lines in_place one is = absurd in_place
looks_first entry (Some text) s line [] in_place one is = grind arith
looks_first entry (Some text) s line (raw ∷ more ∷ lines) in_place one is = grind arith
looks_first entry (Some text) s line (raw ∷ []) in_place one is = grind (arith, common_steps, looks_one)

pub looks_after : {R : Type 0} (entry : Option WaitingEntry) (text : OpenSource R) (before next all : Stretch)
    (lines : List (List ℕ)) → IsStretchOf entry text before lines → before.text + 1 ≡ before.end
    → Reaches entry text.may_match text.source.buffer.items before.end text.source.end next → next.lines ≡ 1
    → all.text ≡ next.text → all.end ≡ next.end → all.lines ≡ before.lines + next.lines
    → LooksAheadIn entry (Some text) lines (record {
      line = record {
        place = record { file = text.file; line = text.line + before.lines + 1 };
        from = before.end;
        to = next.text;
      };
      stretch = all;
    })
looks_after entry text before next all lines in_place joins reaches one text_is end_is lines_are =
    by reaches.0 reaches.1
  where
    here : Ahead
    here = record {
      line = record {
        place = record { file = text.file; line = text.line + before.lines + 1 };
        from = before.end;
        to = next.text;
      };
      stretch = all;
    }

    count : text.line + before.lines + 1 ≡ text.line + 1 + length lines
    count = omega (arith, in_place.is.lines)

    place : here.line.place ≡ record { file = text.file; line = text.line + 1 + length lines }
    place = λ i. record { file = text.file; line = count i }

    by : (raws : List (List ℕ)) → IsStretch entry text.may_match text.source.buffer.items before.end next raws
        → LooksAheadIn entry (Some text) lines here
    by [] is = absurd (omega (arith, one, is.lines))
    by (raw ∷ more ∷ raws) is = absurd (omega (arith, one, is.lines))
    by (raw ∷ []) is = looks_one entry text lines raw next here is reaches.2 refl place (record {
      is = joined entry text.may_match text.source.buffer.items text.source.start before next all lines (raw ∷ [])
          in_place.is joins is text_is end_is lines_are;
      within = omega (arith, end_is, reaches.2);
    })

pub few_after : {R : Type 0} (entry : Option WaitingEntry) (text : OpenSource R) (limits : TakenCounters)
    (before next : Stretch)
    (lines : List (List ℕ)) → FitsLimits limits text → text.line ≤ limits.lines → IsStretchOf entry text before lines
    → Reaches entry text.may_match text.source.buffer.items before.end text.source.end next → next.lines ≡ 1
    → text.line + before.lines + 1 ≤ LINES
few_after entry text limits before next lines fits number in_place reaches one = grind (arith, few_lines)

room_for : {R : Type 0} (entry : Option WaitingEntry) (limits : TakenCounters) (slot : Option (OpenSource R))
    (s : Stretch)
    (lines : List (List ℕ)) → FitsLimitsAt limits slot → IsStretchAt entry slot s lines → HasRoomFor limits lines
room_for entry limits None s lines fits in_place = absurd in_place
room_for entry limits (Some text) s lines fits in_place = grind (arith, few_lines)

pub looks_at : {R : Type 0} (run : MergeState R) (before : List (List ℕ)) (ahead : Ahead) → IsSettled run.stage
    → floor_of run.stage < run.stack.depth → FitsLimitsAt run.limits (top_of run.stack)
    → LooksAheadIn (pending_of run) (top_of run.stack) before ahead → LooksAhead run before ahead
looks_at run before ahead settled above fits looks = grind (arith, room_for, emitted, most_at)

pub looks_next : {R : Type 0} (run : MergeState R) (slot : Option (OpenSource R)) (before : Stretch)
    (next : Option Ahead)
    → top_of run.stack ≡ slot → FitsLimitsAt run.limits (top_of run.stack) → IfSome next (λ ahead.
    (lines : List (List ℕ)) → IsStretchAt (pending_of run) slot before lines
    → LooksAheadIn (pending_of run) slot lines ahead)
    → IfSome next (λ ahead. (lines : List (List ℕ)) → ComesNext run before lines → LooksAhead run lines ahead)
looks_next run slot before None same fits looks = tt
looks_next run slot before (Some ahead) same fits looks = grind (arith, looks_at)

-- The same for lines of an open source.
module _ {R : Type 0} (run : MergeState R) (text : OpenSource R) (before : Stretch) (lines : List (List ℕ))
    (top : top_of run.stack ≡ Some text) (comes : ComesNext run before lines) where
  pub in_source : IsStretchOf (pending_of run) text before lines
  in_source = subst (λ slot. IsStretchAt (pending_of run) slot before lines) top comes.in_place

  pub looks_on : (next : Ahead) (first : List ℕ) → first ≡ run.first.items → FitsLimitsAt run.limits (top_of run.stack)
      → (IsStretchOf (pending_in run.stage first) text before lines
      → LooksAheadIn (pending_in run.stage first) (Some text) lines next)
      → LooksAhead run lines next
  looks_on next first is fits looks = looks_at run lines next comes.settled comes.above fits
      (subst (λ slot. LooksAheadIn (pending_of run) slot lines next) (sym top)
      (subst (λ (f : List ℕ). LooksAheadIn (pending_in run.stage f) (Some text) lines next) is
      (looks (subst (λ (f : List ℕ). IsStretchOf (pending_in run.stage f) text before lines) (sym is) in_source))))

pub is_ahead : {R : Type 0} (run : MergeState R) (before : List (List ℕ)) (ahead : Ahead)
    → FitsLimitsAt run.limits (top_of run.stack) → LooksAhead run before ahead → IsAhead run ahead
is_ahead run before ahead fits looks = search rules

pub are_ahead : {R : Type 0} (run : MergeState R) (before : Ahead) (next : Option Ahead) → (is : IsAhead run before)
    → IfSome next (λ ahead. (lines : List (List ℕ)) → ComesNext run before.stretch lines → LooksAhead run lines ahead)
    → IfSome next (λ ahead. IsAhead run ahead)
are_ahead run before None is looks = tt
are_ahead run before (Some ahead) is looks = is_ahead run is.lines ahead is.fits (looks is.lines is.comes)

pub borrows_lines : {R : Type 0} (old new : MergeState R) (lines : List Line) → EmitsBufferedLines old new lines
    → BorrowsLines old new
borrows_lines old new lines emitted = record {
  yields = λ texts left. (lines, emitted.yields texts left);
  grows = grows_reported new (reported_emitted _ (so_far_of old) (so_far_of new) _ _
      (emitted.yields (λ _. None) (λ _. [])));
  stopped = emitted.stopped;
  readers = emitted.readers;
}

pub borrows_then : {R : Type 0} (old mid new : MergeState R) → BorrowsLines old mid → BorrowsLines mid new
    → BorrowsLines old new
borrows_then old mid new first then = record {
  yields = λ texts left.
      (_, yields_both _ _ _ _ _ _ _ _ (first.yields texts left).1 (then.yields texts left).1);
  grows = grows_reported new (reported_then _ _ _ first.grows.reported then.grows.reported);
  stopped = then.stopped ∙ first.stopped;
  readers = λ opened_as known. then.readers opened_as (first.readers opened_as known);
}
