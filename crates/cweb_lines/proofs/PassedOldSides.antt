-- An old side that is taken from the buffers.
use Rattle.cweb_lines.proofs.Common.{◌≡◌, ◌<◌, ◌+◌, ◌-◌, ℕ, Bool, true, List, [], ◌∷◌, ◌++◌, Option, Some, None, Result, refl, sym, ◌∙◌, ap, subst, arith, length, append-nil, map, change_code, top_of, TakenCounters, Stretch, MergeState, EmitsLines, so_far_of, events_to_come, opened_file_names, optional_string_bytes, world_in, World, WaitingEntry, change_lines, Place, SourceLine, Thing, raws, OldSide, old_lines, Event, took, size_of_lines, AreShort, seek, things_above, Changing, Change, Waiting, OpenSource, after_old, change_events, closing_faults, fault, merge, new_lines, things_below, things_in, things_over, line_with_newline, numbered_lines, trimmed, sources_next, source_depth, matches_at, number_or_zero, IsRunAt, PassesSlot, PassesTop, AllByRecursion, AreReadersKnown, length-append}
use Rattle.cweb_lines.specs.declared.change.code.Code.TheVariants.{NewSide as new_side}
use Rattle.cweb_lines.specs.inner.PassingChanges.{PassesSilently}
use Rattle.cweb_lines.proofs.EqualOldSides.{Equals, Takes, TakesSide, equal_bytes, equals, takes_side}
use Rattle.cweb_lines.proofs.Merges.{state}
use Rattle.cweb_lines.proofs.MergeStateEvents.{coming_of}
use Rattle.cweb_lines.proofs.NextLines.{silent}
use Rattle.cweb_lines.proofs.Passes.{next-length, next-short, next-size}
use Rattle.cweb_lines.proofs.SourceStacks.{over-none}
use Rattle.cweb_lines.proofs.Turns.{begin_step}

-- The lines of an old side as they are taken: the web's first line, the further ones, and those of the change file.
record Sides {R : Type 0} (web change : Option (OpenSource R)) (lines side : List (List ℕ))
    (first : List ℕ) : Type 0 where
  w : SourceLine
  rs : List SourceLine
  is : sources_next web lines ≡ w ∷ rs
  first_is : w.line.bytes ≡ first
  equal : Equals (sources_next change side) rs

sides_of : {R : Type 0} (web change : Option (OpenSource R)) (s u : Stretch) (lines olds : List (List ℕ))
    (turn first : List ℕ) → IsRunAt None web s lines → IsRunAt None change u (olds ++ turn ∷ [])
    → map trimmed lines ≡ first ∷ map trimmed olds
    → AllByRecursion (λ line. change_code (trimmed line) ≡ None) olds → change_code (trimmed turn) ≡ Some new_side
    → Sides web change lines (olds ++ turn ∷ []) first
sides_of None change s u lines olds turn first web_is side_is same plain turns = absurd web_is
sides_of (Some text) None s u lines olds turn first web_is side_is same plain turns = absurd side_is
sides_of (Some text) (Some other) s u [] olds turn first web_is side_is same plain turns = absurd (cc)
sides_of (Some text) (Some other) s u (line ∷ lines) olds turn first web_is side_is same plain turns = record {
  w = record {
    line = record { bytes = trimmed line; place = record { file = text.file; line = text.line + 1 } };
    length = length line;
    size = length line + 1;
  };
  rs = numbered_lines text.file.0 (text.line + 1 + 1) (map line_with_newline lines);
  is = refl;
  first_is = cc;
  equal = equals other.file.0 (other.line + 1) text.file.0 (text.line + 1 + 1) olds lines turn (cc) plain turns;
}

-- A change whose old side equals the web's next lines.
module _ (world : World) (entry : WaitingEntry) (depth : ℕ) (w : SourceLine) (side rs rest : List SourceLine)
    (things : List Thing) (files : ℕ) (equal : Equals side rs) (begins : w.line.bytes ≡ entry.first) where
  abbrev old : OldSide
  old = old_lines (side ++ rest) (raws depth true rs ++ things)

  taken : TakesSide side rs rest things old
  taken = takes_side depth true side rs rest things equal

  no_fault : change_events entry.begin old ≡ old.events
  no_fault =
      (λ i. old.events ++ map fault (closing_faults entry.begin (taken.ended i) (taken.ran_out i) (taken.unequal i)))
      ∙ append-nil old.events

  changes : merge world (state (raws depth true (w ∷ rs) ++ things) (Some entry) (side ++ rest) files)
      ≡ took w ∷ old.events ++ merge world (state ((new_lines depth entry.begin rest).things ++ seek ∷ things) None
      (new_lines depth entry.begin rest).rest files)
  changes = begin_step world entry w w.line.bytes
      (record { place = w.line.place; depth = depth; may_match = true }) refl (equal_bytes w.line.bytes entry.first begins)
      (raws depth true rs ++ things) (side ++ rest) files
      ∙ (λ i. took w ∷ no_fault i ++ merge world (after_old (taken.ended i) files depth entry.begin old))
      ∙ (λ i. took w ∷ old.events ++ merge world (state
      ((new_lines depth entry.begin (taken.rest_is i)).things ++ seek ∷ taken.things_are i) None
      (new_lines depth entry.begin (taken.rest_is i)).rest files))

  all_taken : Takes (w ∷ rs) side (took w ∷ old.events)
  all_taken = record {
    emitted = taken.takes.emitted;
    reported = taken.takes.reported;
    opened = taken.takes.opened;
    count = omega (arith, taken.takes.count);
    size = omega (arith, taken.takes.size);
    short = λ a b. (a.0, taken.takes.short b a.1);
  }

-- The merger after it took an old side.
module _ {R : Type 0} (run new : MergeState R) (mid : TakenCounters) (s u : Stretch) (lines olds : List (List ℕ))
    (turn : List ℕ) (begin : Place) (depth : ℕ) (some : 0 < run.stack.depth)
    (top : PassesTop run.stack new.stack run.limits mid lines)
    (slot : PassesSlot run.change new.change mid new.limits (olds ++ turn ∷ []))
    (web_is : IsRunAt None (top_of run.stack) s lines) (side_is : IsRunAt None run.change u (olds ++ turn ∷ []))
    (same : map trimmed lines ≡ run.first.items ∷ map trimmed olds)
    (plain : AllByRecursion (λ line. change_code (trimmed line) ≡ None) olds)
    (turns : change_code (trimmed turn) ≡ Some new_side) (matches : matches_at (top_of run.stack) ≡ true)
    (deep : depth ≡ number_or_zero source_depth (top_of run.stack)) (waiting : run.stage ≡ Waiting begin)
    (stage : new.stage ≡ Changing (record { begin = begin; below = new.stack.depth; depth = depth }))
    (inputs : new.inputs ≡ run.inputs) (names : new.names ≡ run.names) (faults : new.faults ≡ run.faults) where
  sides : Sides (top_of run.stack) run.change lines (olds ++ turn ∷ []) run.first.items
  sides = sides_of (top_of run.stack) run.change s u lines olds turn run.first.items web_is side_is same plain turns

  abbrev side : List SourceLine
  side = sources_next run.change (olds ++ turn ∷ [])

  abbrev entry : WaitingEntry
  entry = record { begin = begin; first = run.first.items }

  abbrev files : ℕ
  files = length (opened_file_names run.names)

  module _ (t : List ℕ → Option (List ℕ)) (l : R → List ℕ) where
    abbrev world : World
    world = world_in t run.inputs

    abbrev rest : List SourceLine
    rest = change_lines l new

    abbrev things : List Thing
    things = things_above l 0 new.stack []

    first : events_to_come t l run
        ≡ merge world (state (raws depth true (sides.w ∷ sides.rs) ++ things) (Some entry) (side ++ rest) files)
    first = (λ i. coming_of t (optional_string_bytes run.inputs) l (waiting i) run.change run.first.items files
        (things_in l (waiting i) (change_lines l run) run.stack))
        ∙ (λ i. merge world (state (top.takes l 0 some [] i) (Some entry) (slot.takes l i) files))
        ∙ (λ i. merge world (state (raws (sym deep i) (matches i) (sides.is i) ++ things) (Some entry) (side ++ rest)
        files))

    abbrev change : Change
    change = record { begin = begin; below = new.stack.depth; depth = depth }

    below_it : things_in l (Changing change) rest new.stack
        ≡ (new_lines depth begin rest).things ++ seek ∷ things
    below_it =
        let nothing_above : new.stack.depth - new.stack.depth ≡ 0 = omega arith in
        let all_below : new.stack.depth ≡ new.stack.depth - 0 = omega arith in
        over-none l new.stack.depth (new.stack.depth - new.stack.depth) new.stack.texts
        (things_below l change rest new.stack) nothing_above
        ∙ ap (λ n. (new_lines depth begin rest).things ++ seek ∷ things_over l 0 n new.stack.texts []) all_below

    later : events_to_come t l new ≡ merge world (state ((new_lines depth begin rest).things ++ seek ∷ things) None
        (new_lines depth begin rest).rest files)
    later = (λ i. coming_of t (optional_string_bytes (inputs i)) l (stage i) new.change new.first.items
        (length (opened_file_names (names i))) (things_in l (stage i) rest new.stack))
        ∙ ap (λ (ts : List Thing). merge world (state ts None (new_lines depth begin rest).rest files)) below_it

    abbrev events : List Event
    events = took sides.w
        ∷ (old world entry depth sides.w side sides.rs rest things files sides.equal sides.first_is).events

    taken_all : Takes (sides.w ∷ sides.rs) side events
    taken_all = all_taken world entry depth sides.w side sides.rs rest things files sides.equal sides.first_is

    old_side_yields : EmitsLines [] (so_far_of run) (so_far_of new) (events_to_come t l run) (events_to_come t l new)
    old_side_yields = record {
      events = events;
      whole = first ∙ changes world entry depth sides.w side sides.rs rest things files sides.equal sides.first_is
          ∙ ap (λ (es : List Event). events ++ es) (sym later);
      emitted = taken_all.emitted;
      faults = ap (λ v. v.items) faults ∙ sym (append-nil _)
          ∙ ap (λ fs. run.faults.items ++ fs) (sym taken_all.reported);
      names = ap opened_file_names names ∙ sym (append-nil _)
          ∙ ap (λ (ns : List (List ℕ)). opened_file_names run.names ++ ns) (sym taken_all.opened);
      lines_are = omega (
        arith,
        taken_all.count,
        top.few,
        slot.few,
        ap (λ (ls : List SourceLine). length ls) sides.is,
        next-length None (top_of run.stack) s lines web_is,
        next-length None run.change u (olds ++ turn ∷ []) side_is,
      );
      bytes_are = omega (
        arith,
        taken_all.size,
        top.bytes,
        slot.bytes,
        ap size_of_lines sides.is,
        next-size None (top_of run.stack) s lines web_is,
        next-size None run.change u (olds ++ turn ∷ []) side_is,
      );
      short = taken_all.short (subst AreShort sides.is (next-short None (top_of run.stack) s lines web_is))
          (next-short None run.change u (olds ++ turn ∷ []) side_is);
    }

  pub old_side_passes : {E : Type 0} (result : Result Bool E) → new.stopped ≡ run.stopped
      → ((opened_as : R → List ℕ) → AreReadersKnown opened_as run → AreReadersKnown opened_as new)
      → PassesSilently run new result
  old_side_passes result stopped readers = silent run new result old_side_yields stopped names
      (omega (arith, top.few, slot.few, length-append olds (turn ∷ []))) readers
