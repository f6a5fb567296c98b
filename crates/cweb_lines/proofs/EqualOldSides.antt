-- Old sides without a fault: their old lines equal the raw lines that they drop.
use Rattle.cweb_lines.proofs.Common.{◌≡◌, ◌+◌, ℕ, Bool, true, false, List, [], ◌∷◌, ◌++◌, Some, None, refl, sym, ◌∙◌, ap, subst, arith, length, map, bytes_eq, bytes_eq-Decides, change_code, one_more, old_after, old_at, SourceLine, Thing, raw, raws, OldSide, old_lines, Event, took, emitted_lines, reported_faults, openings, taken_lines, size_of_lines, AreShort, line_with_newline, numbered_lines, trimmed, AllByRecursion}
use Rattle.cweb_lines.specs.declared.change.code.Code.TheVariants.{NewSide as new_side}

-- Raw lines equal the old lines of a side, which ends with @y.
abbrev pub Equals : List SourceLine → List SourceLine → Type 0
Equals [] rs = ⊥
Equals (turn ∷ []) [] = change_code turn.line.bytes ≡ Some new_side
Equals (turn ∷ other ∷ side) [] = ⊥
Equals (old ∷ side) (r ∷ rs) = (change_code old.line.bytes ≡ None) × (r.line.bytes ≡ old.line.bytes) × Equals side rs

-- Only lines are taken: those of two files.
pub record Takes (a b : List SourceLine) (events : List Event) : Type 0 where
  pub emitted : emitted_lines events ≡ []
  pub reported : reported_faults events ≡ []
  pub opened : openings events ≡ []
  pub count : length (taken_lines events) ≡ length a + length b
  pub size : size_of_lines (taken_lines events) ≡ size_of_lines a + size_of_lines b
  pub short : AreShort a → AreShort b → AreShort (taken_lines events)

-- An old side without a fault.
pub record TakesSide (side rs rest : List SourceLine) (things : List Thing) (old : OldSide) : Type 0 where
  pub takes : Takes side rs old.events
  pub unequal : old.unequal ≡ 0
  pub ran_out : old.ran_out ≡ false
  pub ended : old.ended ≡ false
  pub rest_is : old.rest ≡ rest
  pub things_are : old.things ≡ things

takes_more : (o r : SourceLine) (side rs rest : List SourceLine) (things : List Thing) (old : OldSide)
    → TakesSide side rs rest things old
    → TakesSide (o ∷ side) (r ∷ rs) rest things (old_after (took o) (one_more true r old))
takes_more o r side rs rest things old is = record {
  takes = record {
    emitted = is.takes.emitted;
    reported = is.takes.reported;
    opened = is.takes.opened;
    count = omega (arith, is.takes.count);
    size = omega (arith, is.takes.size);
    short = λ a b. (a.0, (b.0, is.takes.short a.1 b.1));
  };
  unequal = is.unequal;
  ran_out = is.ran_out;
  ended = is.ended;
  rest_is = is.rest_is;
  things_are = is.things_are;
}

pub equal_bytes : (a b : List ℕ) → a ≡ b → bytes_eq a b ≡ true
equal_bytes a b same = grind (arith, bytes_eq-Decides)

pub takes_side : (depth : ℕ) (may_match : Bool) (side rs rest : List SourceLine) (things : List Thing) → Equals side rs
    → TakesSide side rs rest things (old_lines (side ++ rest) (raws depth may_match rs ++ things))
takes_side depth may_match [] rs rest things equal = absurd equal
takes_side depth may_match (turn ∷ other ∷ side) [] rest things equal = absurd equal
takes_side depth may_match (turn ∷ []) [] rest things equal =
    subst (λ (old : OldSide). TakesSide (turn ∷ []) [] rest things old)
    (ap (λ code. old_after (took turn) (old_at code turn.line rest things (λ ts. old_lines rest ts))) (sym equal))
    (record {
      takes = record {
        emitted = refl;
        reported = refl;
        opened = refl;
        count = refl;
        size = omega arith;
        short = λ a b. a;
      };
      unequal = refl;
      ran_out = refl;
      ended = refl;
      rest_is = refl;
      things_are = refl;
    })
takes_side depth may_match (old ∷ side) (r ∷ rs) rest things equal =
    let later = raws depth may_match rs ++ things in
    subst (λ (o : OldSide). TakesSide (old ∷ side) (r ∷ rs) rest things o)
    (sym (ap (λ code. old_after (took old) (old_at code old.line (side ++ rest)
    (raw (record { source = r; depth = depth; may_match = may_match }) ∷ later) (λ ts. old_lines (side ++ rest) ts)))
    equal.0
    ∙ ap (λ b. old_after (took old) (one_more b r (old_lines (side ++ rest) later)))
    (equal_bytes r.line.bytes old.line.bytes equal.1)))
    (takes_more old r side rs rest things (old_lines (side ++ rest) later)
    (takes_side depth may_match side rs rest things equal.2))

-- Lines of two buffers with equal texts.
pub equals : (f n g m : ℕ) (olds web : List (List ℕ)) (turn : List ℕ) → map trimmed web ≡ map trimmed olds
    → AllByRecursion (λ line. change_code (trimmed line) ≡ None) olds → change_code (trimmed turn) ≡ Some new_side
    → Equals (numbered_lines f n (map line_with_newline (olds ++ turn ∷ [])))
    (numbered_lines g m (map line_with_newline web))
equals f n g m [] [] turn same plain turns = turns
equals f n g m [] (line ∷ web) turn same plain turns = absurd (cc)
equals f n g m (old ∷ olds) [] turn same plain turns = absurd (cc)
equals f n g m (old ∷ olds) (line ∷ web) turn same plain turns =
    (plain.0, cc, equals f (n + 1) g (m + 1) olds web turn (cc) plain.1 turns)
