use Rattle.cweb_lines.proofs.Common.{◌≡◌, ◌+◌, ℕ, Bool, true, false, List, [], ◌∷◌, ap, arith, subst, if◌then◌else◌, bytes_eq, Line, Thing, OldSide, SoFar, Compares, Replaces, one_more, CountsLine, raw_thing, Replaced, LineAt, Vec, Global, refl, sym, ◌∙◌, opened_file_names, SourceFault}
use Rattle.cweb_lines.proofs.AddedEvents.{takes_one}
use Rattle.cweb_lines.proofs.EmittedLinesAddUp.{yields_both}
use Rattle.cweb_lines.proofs.change.old_side.compare.Goals as goal

-- The comparison of an old line with a raw line.
compares_some : (bytes raw_bytes : List ℕ) (before after : Replaced) (at : LineAt) (things things' : List Thing)
    (old new : SoFar) (t : CountsLine raw_bytes at.place old.count new.count) → things ≡ raw_thing at t.line ∷ things'
    → new.faults ≡ old.faults → new.names ≡ old.names → after.unequal
    ≡ (if bytes_eq raw_bytes bytes then before.unequal else before.unequal + 1) → after.ran_out ≡ before.ran_out →
    Compares bytes before after things things' old new
compares_some bytes raw_bytes before after at things things' old new t is reported names unequal ran_out =
    rw is (λ start all later r. taken start all (later things') (subst (λ (side : OldSide).
    Replaces all side before start old) (ap (λ (l : Line). one_more (bytes_eq l.bytes bytes) t.line (later things'))
    t.is) r))
  where
    by : (b : Bool) (n all : ℕ) → after.unequal ≡ (if b then before.unequal else before.unequal + 1) →
        all ≡ before.unequal + (if b then n else n + 1) → all ≡ after.unequal + n
    by true n all same is = omega (arith, same, is)
    by false n all same is = omega (arith, same, is)

    taken : (start : SoFar) (all side : OldSide)
        → Replaces all (one_more (bytes_eq raw_bytes bytes) t.line side) before start old
        → Replaces all side after start new
    taken start all side r = record {
      yields = yields_both [] [] start old new _ _ _ r.yields
          (takes_one old new raw_bytes at.place t side.events reported names);
      unequal = by (bytes_eq raw_bytes bytes) side.unequal all.unequal unequal r.unequal;
      ran_out = rw ran_out r.ran_out;
      ended = r.ended;
      rest = r.rest;
      things = r.things;
    }

pub returns-then-eq-clause-compares : goal.returns-then-eq-clause-compares
returns-then-eq-clause-compares g c = λ seen it.
    let taken = (rw (c.in-Some.is, c.requires.floor) at (c.in_ok-take_raw.ensures.taken seen it)) [] in
    let first = c.as_slice-2.ensures.value ∙ ap (λ (v : Vec ℕ Global). v.items)
    c.in_ok-take_raw.ensures.takes.only.first in
    let test : bytes_eq c.take_raw.new.line.items c.args.run.now.first.items ≡ true =
    (λ i. bytes_eq (sym c.as_slice.ensures.value i) (sym first i)) ∙ sym c.eq.ensures ∙ c.if-eq.true in
    compares_some c.args.run.now.first.items c.take_raw.new.line.items c.args.so_far c.args.so_far c.in-Some.field-0 _ _
    _ _ taken.0 taken.1 (ap (λ (v : Vec SourceFault Global). v.items) c.in_ok-take_raw.ensures.takes.only.faults)
    (ap opened_file_names c.in_ok-take_raw.ensures.takes.only.names)
    (ap (λ b. if b then c.args.so_far.unequal else c.args.so_far.unequal + 1) (sym test)) refl

pub returns-clause-compares : goal.returns-clause-compares
returns-clause-compares g c = λ seen it.
    let taken = (rw (c.in-Some.is, c.requires.floor) at (c.in_ok-take_raw.ensures.taken seen it)) [] in
    let first = c.as_slice-2.ensures.value ∙ ap (λ (v : Vec ℕ Global). v.items)
    c.in_ok-take_raw.ensures.takes.only.first in
    let test : bytes_eq c.take_raw.new.line.items c.args.run.now.first.items ≡ false =
    (λ i. bytes_eq (sym c.as_slice.ensures.value i) (sym first i)) ∙ sym c.eq.ensures ∙ c.if-eq.false in
    compares_some c.args.run.now.first.items c.take_raw.new.line.items c.args.so_far _ c.in-Some.field-0 _ _ _ _ taken.0
    taken.1 (ap (λ (v : Vec SourceFault Global). v.items) c.in_ok-take_raw.ensures.takes.only.faults)
    (ap opened_file_names c.in_ok-take_raw.ensures.takes.only.names)
    (ap (λ b. if b then c.args.so_far.unequal else c.args.so_far.unequal + 1) (sym test)) refl
