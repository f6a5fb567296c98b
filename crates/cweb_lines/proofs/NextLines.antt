-- Lines that come next in the buffers, and calls that take some of them or none.
use Rattle.cweb_lines.proofs.Common.{BYTES, HasRoomFor, LINES, ◌≡◌, ◌<◌, ◌≤◌, ◌+◌, ℕ, Bool, true, false, List, [], ◌∷◌, Option, Some, None, Result, Ok, IfSome, refl, sym, ◌∙◌, ap, subst, arith, length, length-append, append-nil, append_cancel_right, trimmed, is_include_line, IsRunAt, IsStretchAt, IsStretchOf, Reaches, PassesSlot, stretch_bytes, with_newlines, source_depth, number_or_zero, lines_at, CountsLine, counters_of, TakenCounters, Stretch, OpenSource, AppendsPassedLines, AreReadersKnown, MergeState, EmitsLines, so_far_of, events_to_come, Place}
use Rattle.cweb_lines.specs.inner.OpenSources.{DeepAt}
use Rattle.cweb_lines.specs.inner.PassingChanges.{IsNextLine, PassesChange, PassesSilently, place_next}
use Rattle.cweb_lines.proofs.Passes.{passes_none}

-- One line in the buffer of a slot's source.
module _ {R : Type 0} (s : Stretch) (bytes : List ℕ) where
  pub text_is : (slot : Option (OpenSource R)) → IsStretchAt None slot s (bytes ∷ [])
      → stretch_bytes slot s ≡ trimmed bytes
  text_is None next = absurd next
  text_is (Some text) next = append_cancel_right _ _ (10 ∷ []) next.is.text

  pub plain_text : (slot : Option (OpenSource R)) → IsStretchAt None slot s (bytes ∷ [])
      → is_include_line (stretch_bytes slot s) ≡ false
  plain_text None next = absurd next
  plain_text (Some text) next = ap is_include_line (text_is (Some text) next) ∙ next.is.passing.0.plain

  pub room_for_line : (slot : Option (OpenSource R)) (limits : TakenCounters) → IsStretchAt None slot s (bytes ∷ [])
      → limits.lines + 1 ≤ LINES → limits.bytes + 1048576 ≤ BYTES → HasRoomFor limits (bytes ∷ [])
  room_for_line None limits next few small = absurd next
  room_for_line (Some text) limits next few small = record {
    few = few;
    small = omega (arith, small, next.is.passing.0.short, length-append bytes (10 ∷ []));
  }

  abbrev counted : (text : OpenSource R) (before after : TakenCounters) → IsStretchAt None (Some text) s (bytes ∷ [])
      → after.lines ≡ before.lines + length (bytes ∷ []) → after.bytes ≡ before.bytes + length (with_newlines (bytes ∷ []))
      → (place : Place) → place ≡ place_next (Some text)
      → CountsLine (stretch_bytes (Some text) s) place (counters_of before) (counters_of after)
  counted text before after next few size place is = record {
    line = record {
      line = record { bytes = trimmed bytes; place = place_next (Some text) };
      length = length bytes;
      size = length bytes + 1;
    };
    is = (λ i. record { bytes = sym (text_is (Some text) next) i; place = sym is i });
    short = next.is.passing.0.short;
    lines = few;
    bytes_are = omega (arith, size, length-append bytes (10 ∷ []));
  }

  pub line_taken : (slot slot' : Option (OpenSource R)) (before after : TakenCounters)
      → IsStretchAt None slot s (bytes ∷ []) → PassesSlot slot slot' before after (bytes ∷ []) → (left : R → List ℕ)
      → (t : CountsLine (stretch_bytes slot s) (place_next slot) (counters_of before) (counters_of after))
      × (lines_at left slot ≡ t.line ∷ lines_at left slot')
  line_taken None slot' before after next passes left = absurd next
  line_taken (Some text) slot' before after next passes left =
      (counted text before after next passes.few passes.bytes (place_next (Some text)) refl, passes.takes left)

pub deep_enough : {R : Type 0} (slot : Option (OpenSource R)) (s : Stretch) (lines : List (List ℕ)) (place : ℕ)
    → IsRunAt None slot s lines → DeepAt place slot → place + 1 ≤ number_or_zero source_depth slot
deep_enough None s lines place next deep = absurd next
deep_enough (Some text) s lines place next deep = omega (arith, deep)

one_line_of : {R : Type 0} (text : OpenSource R) (s : Stretch)
    → Reaches None text.may_match text.source.buffer.items text.source.start text.source.end s → s.lines ≡ 1
    → IsNextLine (Some text) s
one_line_of {R = R} text s reaches one = by reaches.0 (record { is = reaches.1; within = reaches.2 })
  where
    by : (raw_lines : List (List ℕ)) → IsStretchOf None text s raw_lines → IsNextLine (Some text) s
    by [] in_place = absurd (omega (arith, in_place.is.lines, one))
    by (bytes ∷ []) in_place = (bytes, in_place)
    by (bytes ∷ other ∷ lines) in_place = absurd (omega (arith, in_place.is.lines, one))

pub next_found : {R : Type 0} (slot : Option (OpenSource R)) (text : OpenSource R) → slot ≡ Some text
    → (found : Option Stretch) → IfSome found (λ s. Reaches None text.may_match text.source.buffer.items
    text.source.start text.source.end s) → IfSome found (λ s. s.lines ≡ 1) → IfSome found (λ s. IsNextLine slot s)
next_found {R = R} slot text is None found one = tt
next_found {R = R} slot text is (Some s) found one =
    subst (λ (o : Option (OpenSource R)). IsNextLine o s) (sym is) (one_line_of text s found one)

-- Nothing was taken.
pub silent_none : {R E : Type 0} (run : MergeState R) (result : Result Bool E) → (result ≡ Ok true → ⊥)
    → PassesSilently run run result
silent_none run result other =
    record { passes = λ room buffer. passes_none room run buffer; counted = λ is. absurd (other is) }

pub change_none : {R E : Type 0} (room : ℕ) (run : MergeState R) (buffer more : List ℕ) (result : Result Bool E)
    → more ≡ buffer → (result ≡ Ok true → ⊥) → PassesChange room run run buffer more result
change_none room run buffer more result same other = record {
  passes = subst (λ (m : List ℕ). AppendsPassedLines room run run buffer m) (sym same) (passes_none room run buffer);
  counted = λ is. absurd (other is);
}

-- Lines were taken, and none is emitted.
pub passes_silently : {R : Type 0} (room : ℕ) (old new : MergeState R) (buffer : List ℕ)
    → ((t : List ℕ → Option (List ℕ)) (l : R → List ℕ)
    → EmitsLines [] (so_far_of old) (so_far_of new) (events_to_come t l old) (events_to_come t l new))
    → new.stopped ≡ old.stopped → new.names ≡ old.names → old.limits.lines < new.limits.lines
    → ((opened_as : R → List ℕ) → AreReadersKnown opened_as old → AreReadersKnown opened_as new)
    → AppendsPassedLines room old new buffer buffer
passes_silently room old new buffer yields stopped names count readers = record {
  lines = [];
  yields = yields;
  buffered = sym (append-nil buffer);
  within = λ some. absurd (omega (arith, some));
  stopped = stopped;
  names = names;
  counted = omega (arith, count);
  readers = readers;
}

pub silent : {R E : Type 0} (old new : MergeState R) (result : Result Bool E)
    → ((t : List ℕ → Option (List ℕ)) (l : R → List ℕ)
    → EmitsLines [] (so_far_of old) (so_far_of new) (events_to_come t l old) (events_to_come t l new))
    → new.stopped ≡ old.stopped → new.names ≡ old.names → old.limits.lines < new.limits.lines
    → ((opened_as : R → List ℕ) → AreReadersKnown opened_as old → AreReadersKnown opened_as new)
    → PassesSilently old new result
silent old new result yields stopped names count readers = record {
  passes = λ room buffer. passes_silently room old new buffer yields stopped names count readers;
  counted = λ is. count;
}
