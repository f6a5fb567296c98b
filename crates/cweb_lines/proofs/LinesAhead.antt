-- Lines that come next in the buffer of a source, one after another.
use Rattle.cweb_lines.proofs.Common.{◌≡◌, ◌≤◌, ◌+◌, ℕ, List, [], ◌∷◌, ◌++◌, Option, None, Some, sym, subst, arith, length, append_cancel_right, slice_range, trimmed, IsStretch, BYTES, HasRoomFor, IsRun, IsRunAt, LINES, OpenSource, Reaches, Stretch, TakenCounters, with_newlines}
use Rattle.cweb_lines.specs.declared.passing.next.LinesAhead.{LinesAhead}
use Rattle.cweb_lines.specs.inner.PassingChanges.{AreAhead}
use Rattle.cweb_lines.proofs.LinesInBuffer.{few_lines, run_joined, run_of}

few_at : {R : Type 0} (slot : Option (OpenSource R)) (s : Stretch) (lines : List (List ℕ))
    → IsRunAt None slot s lines → s.lines ≤ length (with_newlines lines)
few_at None s lines in_place = absurd in_place
few_at (Some text) s lines in_place = omega (arith, in_place.is.lines, few_lines lines)

pub few_ahead : {R : Type 0} (slot : Option (OpenSource R)) (lines : LinesAhead) (before : List (List ℕ))
    (raw : List ℕ) → AreAhead slot lines before raw → lines.all.lines ≤ 1048576
few_ahead slot lines before raw ahead =
    omega (arith, few_at slot lines.all (before ++ raw ∷ []) ahead.in_place, ahead.small)

pub has_room : {R : Type 0} (slot : Option (OpenSource R)) (lines : LinesAhead) (before : List (List ℕ)) (raw : List ℕ)
    → AreAhead slot lines before raw → (limits : TakenCounters) → limits.lines + 1048576 ≤ LINES
    → limits.bytes + 1048576 ≤ BYTES → HasRoomFor limits (before ++ raw ∷ [])
has_room slot lines before raw ahead limits few small = record {
  few = omega (arith, few, few_lines (before ++ raw ∷ []), ahead.small);
  small = omega (arith, small, ahead.small);
}

more_in : {R : Type 0} (text : OpenSource R) (lines : LinesAhead) (next all : Stretch)
    (before : List (List ℕ)) (raw : List ℕ) → AreAhead (Some text) lines before raw
    → Reaches None text.may_match text.source.buffer.items lines.all.end text.source.end next → next.lines ≡ 1
    → next.end ≤ text.source.start + 1048576 → all.text ≡ next.text → all.end ≡ next.end
    → all.lines ≡ lines.all.lines + next.lines
    → (x : List ℕ) × AreAhead (Some text) (record { all = all; last = lines.all.end }) (before ++ raw ∷ []) x
more_in {R = R} text lines next all before raw ahead reaches one near text_is end_is lines_are =
    by reaches.0 reaches.1
  where
    by : (raws : List (List ℕ)) → IsStretch None text.may_match text.source.buffer.items lines.all.end next raws
        → (x : List ℕ) × AreAhead (Some text) (record { all = all; last = lines.all.end }) (before ++ raw ∷ []) x
    by [] is = absurd (omega (arith, one, is.lines))
    by (x ∷ other ∷ raws) is = absurd (omega (arith, one, is.lines))
    by (x ∷ []) is =
        let whole : IsRun None text.may_match text.source.buffer.items text.source.start all
        ((before ++ raw ∷ []) ++ x ∷ []) =
        run_joined None text.may_match text.source.buffer.items text.source.start lines.all next all
        (before ++ raw ∷ []) (x ∷ []) ahead.in_place.is
        (run_of None text.may_match text.source.buffer.items lines.all.end next (x ∷ []) is) end_is lines_are in (
          x,
          record {
            in_place = record { is = whole; within = omega (arith, end_is, reaches.2) };
            bytes = subst (λ n. slice_range text.source.buffer.items lines.all.end n ≡ trimmed x) (sym text_is)
                (append_cancel_right _ _ (10 ∷ []) is.text);
            order = omega (arith, text_is, is.forth);
            within = omega (arith, text_is, is.before, reaches.2, text.source.within);
            small = omega (arith, whole.size, end_is, near);
          },
        )

pub more_ahead : {R : Type 0} (slot : Option (OpenSource R)) (text : OpenSource R) (lines : LinesAhead)
    (next all : Stretch) (before : List (List ℕ)) (raw : List ℕ) → slot ≡ Some text → AreAhead slot lines before raw
    → Reaches None text.may_match text.source.buffer.items lines.all.end text.source.end next → next.lines ≡ 1
    → next.end ≤ text.source.start + 1048576 → all.text ≡ next.text → all.end ≡ next.end
    → all.lines ≡ lines.all.lines + next.lines
    → (x : List ℕ) × AreAhead slot (record { all = all; last = lines.all.end }) (before ++ raw ∷ []) x
more_ahead {R = R} slot text lines next all before raw is ahead reaches one near text_is end_is lines_are =
    let more = more_in text lines next all before raw (subst (λ (o : Option (OpenSource R)). AreAhead o lines before raw)
    is ahead) reaches one near text_is end_is lines_are in (
      more.0,
      subst (λ (o : Option (OpenSource R)).
          AreAhead o (record { all = all; last = lines.all.end }) (before ++ raw ∷ []) more.0) (sym is) more.1,
    )
