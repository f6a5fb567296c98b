-- The places of Marks and faults are places of lines of the web.
use Rattle.cweb_scan.proofs.Common.{◌≡◌, ◌≤◌, ℕ, Bool, true, false, List, [], ◌∷◌, ◌++◌, map, refl, ap, arith, if◌then◌else◌, All, All-nil, All-cons, All-head, All-tail, All-push, Place, Line, Token, Mark, all_tokens, all_parts, parts_size, sum_over, ScanFault, ScanState, start_state, leave, Reading, next_line, move_to, lex, newline_prefixed, scanned, MarkPasses, PlacesPass}
use Rattle.cweb_scan.proofs.Bounds.{all-size}
use Rattle.cweb_scan.proofs.Measures.{pushed-size, opened-size, closed-size, dropped-size}
use Rattle.cweb_scan.proofs.Walked.{run-walks}
use Rattle.cweb_scan.proofs.Moves.{Moves, Holds, Each, OfMark, leave-walks}
use Rattle.cweb_scan.proofs.TakenItems.{reading}

-- Counts the Marks with other places.
abbrev strange : (Place → Bool) → Token → ℕ
strange known (Mark place) = if known place then 0 else 1
strange known t = 0

module _ (known : Place → Bool) where
  abbrev IsKnown : Place → Type 0
  IsKnown p = known p ≡ true

  -- All stored places are known.
  abbrev AreKnown : Reading → Type 0
  AreKnown r = (parts_size (strange known) r.state.contents.parts ≤ 0) × All
      (λ (f : ScanFault). known f.place ≡ true) r.state.faults × Holds IsKnown r.state.here r.state.context r.later

  not_strange : (t : Token) → OfMark IsKnown t → strange known t ≡ 0
  not_strange (Mark p) h = ap (λ v. if v then 0 else 1) h
  not_strange t h = refl

  moved-known : (s : ScanState) (later : List Place) → AreKnown (reading s later)
      → AreKnown (next_line move_to (reading s later))
  moved-known s [] k = k
  moved-known s (p ∷ later) k = grind arith

  stays_known : Moves IsKnown (λ n w t b r m. AreKnown r → AreKnown m)
  stays_known = record {
    nothing = λ r k. k;
    both = λ x y k. y (x k);
    within = λ n w t b x h k. x k;
    knowing = λ f k. f k.2 k;
    advances = λ r k. moved-known r.state r.later k;
    yields = λ t r ok k.
        (omega (arith, pushed-size (strange known) t r.state.contents.parts, k.0, not_strange t ok), k.1, k.2);
    faults = λ e p r ok k. (k.0, All-push (λ (f : ScanFault). known f.place ≡ true) r.state.faults _ k.1 ok, k.2);
    enters = λ c r ok k.
        (k.0, k.1, record { here_is = k.2.here_is; begun_is = ok; later_are = k.2.later_are });
    pays = λ t h x k.
        x (k.0, k.1, record { here_is = k.2.here_is; begun_is = tt; later_are = k.2.later_are });
    opens = λ kind r k. (omega (arith, opened-size (strange known) kind r.state.contents.parts, k.0), k.1, k.2);
    closes = λ r k. (omega (arith, closed-size (strange known) r.state.contents.parts, k.0), k.1, k.2);
    drops = λ r k. (omega (arith, dropped-size (strange known) r.state.contents.parts, k.0), k.1, k.2);
    occurs = λ o r k. k;
    replaces = λ x r k. k;
    folds = λ v r k. k;
    numbers = λ n ns r e k. k;
  }

  not_strange_is : (b : Bool) → (if b then 0 else 1) ≤ 0 → b ≡ true
  not_strange_is true h = refl
  not_strange_is false h = absurd (omega (arith, h))

  mark-passes : (t : Token) → strange known t ≤ 0 → MarkPasses known t
  mark-passes (Mark p) h = not_strange_is (known p) h
  mark-passes t h = tt

  marks-pass : (ts : List Token) → sum_over (strange known) ts ≤ 0 → All (MarkPasses known) ts
  marks-pass [] h = All-nil (MarkPasses known)
  marks-pass (t ∷ ts) h =
      All-cons (MarkPasses known) t ts (mark-passes t (omega (arith, h))) (marks-pass ts (omega (arith, h)))

  places-known : (lines : List Line) → All (λ (l : Line). known l.place ≡ true) lines
      → Each IsKnown (map (λ l. l.place) lines)
  places-known [] h = tt
  places-known (line ∷ lines) h = (
    All-head (λ (l : Line). known l.place ≡ true) line lines h,
    places-known lines (All-tail (λ (l : Line). known l.place ≡ true) line lines h),
  )

  -- A test that all lines pass is passed by all Marks and faults.
  pub scanned-pass : (lines : List Line) → All (λ (l : Line). known l.place ≡ true) lines
      → PlacesPass known (scanned lines)
  scanned-pass [] h =
      record { marks = All-nil (MarkPasses known); faults = All-nil (λ (f : ScanFault). known f.place ≡ true) }
  scanned-pass (line ∷ lines) h =
      let places = places-known (line ∷ lines) h in
      let start : Reading = record { state = start_state line.place; later = map (λ l. l.place) lines } in
      let t = line.bytes ++ newline_prefixed lines in
      let s = (lex start t).state in
      let begins : AreKnown start = (
        omega arith,
        All-nil (λ (f : ScanFault). known f.place ≡ true),
        record { here_is = places.0; begun_is = tt; later_are = places.1 },
      ) in
      let ends = leave-walks stays_known (lex start t) (run-walks stays_known start t begins) in
      let v = (leave s).contents.parts in
      record {
        marks = marks-pass (all_tokens (all_parts v)) (omega (arith, all-size (strange known) v, ends.0));
        faults = ends.1;
      }
