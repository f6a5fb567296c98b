-- Emitted lines are buffered, written or lost.
use Rattle.cweb_lines.proofs.Common.{rules, ◌≡◌, ◌≤◌, ◌+◌, ℕ, List, Option, None, Some, Result, Err, sym, subst, IfSome, Event, SoFar, StopsReading, files_named, StopsWriting, WritesSome, LeavesSink, Stop, Memory, WriteFault, ◌<◌, [], ◌∷◌, ◌++◌, length, ◌∙◌, ap, arith, length-append, append-nil, append_assoc, FailsWithin, SinkModel, Writes, Line, EmitsLines, BuffersLines, emitted_lines, written_lines, all_but_last, WritesPrefix, HasWritten, FailsAmong, LosesLine, Prints, written}
use Rattle.cweb_files.proofs.Appending.{fails_then, written_none, written_then}
use Rattle.cweb_lines.proofs.EmittedLinesAddUp.{yields_both}
use Rattle.cweb_lines.proofs.WrittenLinesAddUp.{prefix_of_all, emitted_prefix, text_of-append, written-all_but_last}

-- Which device the end of a run blames.
pub none_before : {A : Type 0} (P : A → Type 0) {stop : Option A} → stop ≡ None → IfSome stop P
none_before P none = subst (λ stop. IfSome stop P) (sym none) tt

pub blames_own : (stop : Stop) (kept : Option Stop) (files before after : ℕ) → StopsReading stop
    → kept ≡ Some stop → files_named stop ≤ files → after ≡ before → LeavesSink stop before after kept files
blames_own stop kept files before after reading keeps named out = search rules

pub blames_write : (kept : Option Stop) (files before after : ℕ) → kept ≡ None → after ≡ before + 1
    → LeavesSink WriteFault before after kept files
blames_write kept files before after running out = search rules

pub memory_failed : (result : Stop) (old new : SoFar) (all : List Event) (Wrote : List ℕ → Type 0) →
    result ≡ Memory → WritesSome all Wrote → StopsWriting result old new all Wrote
memory_failed result old new all Wrote is wrote = subst (λ s. StopsWriting s old new all Wrote) (sym is) wrote

pub memory_write : {A : Type 0} (stop : Stop) (result : Result A Stop) → result ≡ Err stop → stop ≡ Memory
    → result ≡ Err WriteFault → ⊥
memory_write stop result is memory fault = cc

-- A text was written.
pub record Printed (old new : SinkModel) : Type 0 where
  pub text : List ℕ
  pub is : new ≡ written text old

pub printed_none : (sink : SinkModel) → Printed sink sink
printed_none sink = record { text = []; is = written_none sink }

pub printed_then : {old mid new : SinkModel} (more : List ℕ) (done : Printed old mid) → new ≡ written more mid
    → Printed old new
printed_then {old} more done wrote = grind (arith, written_then done.text more old done.is wrote)

pub printed_all : {old new : SinkModel} → Printed old new → Prints old new
printed_all done = record { text = done.text; is = ap (λ (sink : SinkModel). sink.contents) done.is }

-- A write failed after it.
pub printed_before : {old mid new : SinkModel} {more : List ℕ} → Printed old mid → FailsWithin more mid new
    → Prints old new
printed_before done fails = let both = fails_then done.text done.is fails in
    record { text = both.prefix; is = ap (λ (sink : SinkModel). sink.contents) both.is }

pub failed_same : {old new : SinkModel} → Printed old new → new.failed ≡ old.failed
failed_same done = ap (λ (sink : SinkModel). sink.failed) done.is

pub failed_next : {old mid new : SinkModel} {more : List ℕ} → Printed old mid → FailsWithin more mid new
    → new.failed ≡ old.failed + 1
failed_next done fails = ap (λ (sink : SinkModel). sink.failed) fails.is ∙ ap (λ (n : ℕ). n + 1) (failed_same done)

pub held : (room : ℕ) (old so : SoFar) (all now : List Event) (Wrote : List ℕ → Type 0) →
    HasWritten old so all now Wrote
    → (line : Line) (so' : SoFar) (later : List Event) → EmitsLines (line ∷ []) so so' now later
    → (buffer : List ℕ) → buffer ≡ line.bytes ++ 10 ∷ [] → BuffersLines room old so' all later Wrote buffer
held room old so all now Wrote g line so' later next buffer is =
    grind (arith, g.lines, yields_both g.lines (line ∷ []) old so so' all now later g.yields next, g.wrote)

within_on : (room : ℕ) (buffer : List ℕ) (a b : List Line) → buffer ≡ written_lines a
    → (1 < length a → length (written_lines (all_but_last a)) < room)
    → (0 < length b → length buffer + length (written_lines (all_but_last b)) < room)
    → 1 < length (a ++ b) → length (written_lines (all_but_last (a ++ b))) < room
within_on room buffer a [] is first then = rw append-nil first
within_on room buffer a (line ∷ b) is first then = grind (arith, written-all_but_last)

pub held_on : (room : ℕ) (old so : SoFar) (all now : List Event) (Wrote : List ℕ → Type 0) (buffer : List ℕ) →
    BuffersLines room old so all now Wrote buffer
    → (lines : List Line) (so' : SoFar) (later : List Event) → EmitsLines lines so so' now later → (more : List ℕ) →
    more ≡ buffer ++ written_lines lines
    → (0 < length lines → length buffer + length (written_lines (all_but_last lines)) < room)
    → BuffersLines room old so' all later Wrote more
held_on room old so all now Wrote buffer h lines so' later next more is within = record {
  done = h.done;
  buffered = h.buffered ++ lines;
  yields = rw append_assoc at (yields_both (h.done ++ h.buffered) lines old so so' all now later h.yields next);
  wrote = h.wrote;
  piece_is = simp (is, h.piece_is, text_of-append);
  some = omega (arith, h.some, length-append h.buffered lines);
  within = within_on room buffer h.buffered lines h.piece_is h.within within;
}

module _ (first mid : SinkModel) (room : ℕ) (old so : SoFar) (all now : List Event) (buffer : List ℕ)
    (h : BuffersLines room old so all now (Writes first mid) buffer) where
  pub written_on : (new : SinkModel) → Writes mid new buffer → HasWritten old so all now (Writes first new)
  written_on new wrote = grind (arith, text_of-append, written_then)

  pub fails_prefix : (new : SinkModel) → FailsWithin buffer mid new
      → WritesPrefix (written_lines (emitted_lines all)) first new
  fails_prefix new fails =
      prefix_of_all (emitted_lines all) h.done h.buffered (emitted_lines now) first mid new buffer
      (emitted_prefix (h.done ++ h.buffered) old so all now h.yields ∙ append_assoc
      h.done h.buffered (emitted_lines now)) h.wrote h.piece_is fails

  pub fails_among : (new : SinkModel) → FailsWithin buffer mid new → FailsAmong room old so all now first new
  fails_among new fails = grind arith

-- Without buffering a write fault loses only one line.
pub loses_line : (old new : SoFar) (all later : List Event) (before after : SinkModel) →
    FailsAmong 0 old new all later before after → LosesLine old new all later before after
loses_line old new all later before after failed =
    by failed.buffered failed.some failed.within failed.yields failed.fails
  where
    by : (buffered : List Line) → 0 < length buffered
        → (1 < length buffered → length (written_lines (all_but_last buffered)) < 0)
        → EmitsLines (failed.done ++ buffered) old new all later
        → FailsWithin (written_lines buffered) (written (written_lines failed.done) before) after
        → LosesLine old new all later before after
    by [] some within yields fails = absurd (omega (arith, some))
    by (line ∷ []) some within yields fails =
        record { done = failed.done; line = line; yields = yields; fails = fails }
    by (line ∷ other ∷ rest) some within yields fails = absurd (omega (arith, within (omega arith)))
