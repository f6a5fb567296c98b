-- The stack of open sources in an array.
use Rattle.cweb_lines.proofs.Common.{Bool, nat_tests, append_assoc, ◌≡◌, ◌≢◌, ◌≤◌, ◌<◌, ◌+◌, ◌-◌, ℕ, zero, suc, List, [], ◌∷◌, ◌++◌, Option, Some, None, refl, sym, ◌∙◌, ap, subst, arith, length, get_or, Stop, set, get_or-set_same, get_or-set_other, le-max_left, le-max_right, max-le, get_or_default, SourceLine, Thing, raw, raws, TakenCountersModel, Stack, ReadFault, LineTooLong, TooMuchText, Memory, LineAt, OpenSource}
use Rattle.cweb_lines.specs.surface.OpenSources.{things_at, things_over, matches_at, source_depth, lines_at, number_or_zero, StopsFor}
use Rattle.cweb_lines.specs.inner.OpenSources.{DeepAt, StaysBelow, Pushes, TakesNextLine, TakesFirst, FirstStops, TopStops, AreDeep, files_up_to, line_number, line_number_at, maximum_of, gaps_from}
use Rattle.cweb_lines.specs.inner.LineCalls.{KeepsStack}

pub most_at : {R : Type 0} (number : OpenSource R → ℕ) (texts : List (Option (OpenSource R))) (at : ℕ) →
    number_or_zero number (get_or texts at None) ≤ maximum_of number texts
unfolding maximum_of
most_at number [] at = omega arith
most_at number (text ∷ texts) zero = le-max_left (number_or_zero number text) (maximum_of number texts)
most_at number (text ∷ texts) (suc at) = grind (arith, le-max_right, most_at number texts at)

pub most_read : {R : Type 0} (number : OpenSource R → ℕ) (texts : List (Option (OpenSource R)))
    (at : ℕ) (d : Option (OpenSource R)) → at < length texts
    → number_or_zero number (get_or texts at d) ≤ maximum_of number texts
most_read number texts at d within =
    let same = ap (number_or_zero number) (get_or_default texts at None d within) in
    omega (arith, same, most_at number texts at)

pub most_set : {R : Type 0} (number : OpenSource R → ℕ) (texts : List (Option (OpenSource R))) (at : ℕ)
    (slot : Option (OpenSource R)) (bound : ℕ) → maximum_of number texts ≤ bound → number_or_zero number slot ≤ bound
    → maximum_of number (set texts at slot) ≤ bound
unfolding maximum_of
most_set number [] at slot bound each top = each
most_set number (text ∷ texts) zero slot bound each top = grind (arith, max-le, le-max_right)
most_set number (text ∷ texts) (suc at) slot bound each top =
    max-le (omega (arith, le-max_left (number_or_zero number text) (maximum_of number texts)))
    (most_set number texts at slot bound
    (omega (arith, le-max_right (number_or_zero number text) (maximum_of number texts))) top)

module _ {R : Type 0} (left : R → List ℕ) where
  pub over-set : (low n : ℕ) (texts : List (Option (OpenSource R))) (at : ℕ) (slot : Option (OpenSource R)) (rest :
      List Thing) → low + n ≤ at → things_over left low n (set texts at slot) rest ≡ things_over left low n texts rest
  over-set low zero texts at slot rest le = refl
  over-set low (suc n) texts at slot rest le =
      let other : low + n ≢ at = omega arith in
      simp (get_or-set_other texts at (low + n) slot None other, over-set low n texts at slot rest (omega arith))

  pub over-top : (low n : ℕ) (texts : List (Option (OpenSource R))) (slot : Option (OpenSource R)) (rest : List Thing)
      → low + n < length texts → things_over left low (suc n) (set texts (low + n) slot) rest
      ≡ things_at left slot ++ things_over left low n texts rest
  over-top low n texts slot rest within = grind (arith, get_or-set_same, over-set)

pub over-none : {R : Type 0} (left : R → List ℕ) (low n : ℕ) (texts : List (Option (OpenSource R)))
    (rest : List Thing) →
    n ≡ 0 → things_over left low n texts rest ≡ rest
over-none left low n texts rest none = ap (λ k. things_over left low k texts rest) none

pub raws-append : (depth : ℕ) (may_match : Bool) (before following : List SourceLine)
    → raws depth may_match (before ++ following) ≡ raws depth may_match before ++ raws depth may_match following
raws-append depth may_match [] following = refl
raws-append depth may_match (line ∷ before) following = grind (arith, raws-append depth may_match before following)

-- The deepest source yields a line, has ended, or causes a stop.
module _ {R : Type 0} (left : R → List ℕ) (texts : List (Option (OpenSource R)))
    (d slot' : Option (OpenSource R)) (depth : ℕ)
    (within : depth - 1 < length texts) (before after : TakenCountersModel) (bytes : List ℕ) (low : ℕ)
    (above : low < depth)
    (rest : List Thing) where
  abbrev slot : Option (OpenSource R)
  slot = get_or texts (depth - 1) d

  abbrev under : List Thing
  under = things_over left low (depth - 1 - low) texts rest

  deep : depth - low ≡ suc (depth - 1 - low)
  deep = omega arith

  top : low + (depth - 1 - low) ≡ depth - 1
  top = omega arith

  open_now : things_over left low (depth - low) texts rest ≡ things_at left slot ++ under
  open_now = grind (arith, deep, top, get_or_default)

  with_lines : (lines : List SourceLine) → lines_at left slot ≡ lines →
      things_over left low (depth - low) texts rest ≡ raws (number_or_zero source_depth slot) (matches_at slot) lines
      ++ under
  with_lines lines are = grind (arith, open_now)

  pub top_passed : (sources : List SourceLine) → number_or_zero source_depth slot' ≡ number_or_zero source_depth slot
      → matches_at slot' ≡ matches_at slot → lines_at left slot ≡ sources ++ lines_at left slot'
      → things_over left low (depth - low) texts rest
      ≡ raws (number_or_zero source_depth slot) (matches_at slot) sources
      ++ things_over left low (depth - low) (set texts (depth - 1) slot') rest
  top_passed sources deep' matches' takes =
      let first = raws (number_or_zero source_depth slot) (matches_at slot) sources in
      with_lines (sources ++ lines_at left slot') takes
      ∙ ap (λ (ts : List Thing). ts ++ under)
      (raws-append (number_or_zero source_depth slot) (matches_at slot) sources (lines_at left slot'))
      ∙ append_assoc first (raws (number_or_zero source_depth slot) (matches_at slot) (lines_at left slot')) under
      ∙ ap (λ (ts : List Thing). first ++ ts) (
      (λ i. raws (sym deep' i) (sym matches' i) (lines_at left slot') ++ under)
      ∙ sym (over-top left low (depth - 1 - low) texts slot' rest (omega (arith, within)))
      ∙ ap (λ p. things_over left low (suc (depth - 1 - low)) (set texts p slot') rest) top
      ∙ ap (λ n. things_over left low n (set texts (depth - 1) slot') rest) (sym deep)
      )

  pub top_taken : (at : LineAt) → at.depth ≡ number_or_zero source_depth slot → at.may_match ≡ matches_at slot
      → number_or_zero source_depth slot' ≡ number_or_zero source_depth slot → matches_at slot' ≡ matches_at slot
      → TakesNextLine (lines_at left slot) (Some at) bytes (lines_at left slot') before after
      → TakesFirst (things_over left low (depth - low) texts rest)
      (Some at) bytes (things_over left low (depth - low) (set texts (depth - 1) slot') rest) before after
  top_taken at deep_at matches deep' matches' takes = (
    takes.0,
    top_passed (takes.0.line ∷ []) deep' matches' takes.1
        ∙ (λ i. raw (record { source = takes.0.line; depth = sym deep_at i; may_match = sym matches i })
        ∷ things_over left low (depth - low) (set texts (depth - 1) slot') rest),
  )

  pub top_closed : (texts' : List (Option (OpenSource R))) → texts' ≡ set texts (depth - 1) None
      → TakesNextLine (lines_at left slot) None bytes (lines_at left slot') before after
      → TakesFirst (things_over left low
      (depth - low) texts rest) None bytes (things_over left low (depth - 1 - low) texts' rest) before after
  top_closed texts' are takes = with_lines [] takes.0
      ∙ sym (over-set left low (depth - 1 - low) texts (depth - 1) None rest (omega arith))
      ∙ ap (λ (ts : List (Option (OpenSource R))). things_over left low (depth - 1 - low) ts rest) (sym are)

  pub top_stops : (stop : Stop) → FirstStops stop before (lines_at left slot) →
      TopStops stop before (things_over left low (depth - low) texts rest)
  top_stops stop stops = record {
    raw_line = record { source = stops.line; depth = number_or_zero source_depth slot; may_match = matches_at slot };
    rest = raws (number_or_zero source_depth slot) (matches_at slot) stops.rest ++ under;
    first = with_lines (stops.line ∷ stops.rest) stops.first;
    why = stops.why;
  }

pub pushed : {R : Type 0} (old new : Stack R) (text : OpenSource R) → old.depth < length old.texts →
    new.depth ≡ old.depth + 1 → new.texts ≡ set old.texts old.depth (Some text) → Pushes old new text
pushed old new text within depth texts = λ left low le rest.
    let next : old.depth + 1 - low ≡ suc (old.depth - low) = omega arith in
    let top : old.depth ≡ low + (old.depth - low) = omega arith in
    (λ i. things_over left low (depth i - low) (texts i) rest)
    ∙ ap (λ n. things_over left low n (set old.texts old.depth (Some text)) rest) next
    ∙ ap (λ p. things_over left low (suc (old.depth - low)) (set old.texts p (Some text)) rest) top
    ∙ over-top left low (old.depth - low) old.texts (Some text) rest (omega (arith, within))

pub stays_below : {R : Type 0} (old new : List (Option (OpenSource R))) (at low : ℕ) (slot : Option (OpenSource R)) →
    low ≤ at → new ≡ set old at slot → StaysBelow low old new
stays_below old new at low slot le texts = grind (arith, over-set)

pub numbers_set : {R : Type 0} (old new : List (Option (OpenSource R))) (at place : ℕ)
    (d slot : Option (OpenSource R)) →
    at < length old → new ≡ set old at slot
    → number_or_zero line_number slot ≡ number_or_zero line_number (get_or old at d)
    → line_number_at place new ≡ line_number_at place old
numbers_set old new at place d slot within texts same =
    grind (arith, nat_tests, get_or-set_same, get_or_default, get_or-set_other)

pub numbers_below : {R : Type 0} (old new : List (Option (OpenSource R))) (at place : ℕ)
    (slot : Option (OpenSource R)) →
    place < at → new ≡ set old at slot → line_number_at place new ≡ line_number_at place old
numbers_below old new at place slot below texts = grind (arith, get_or-set_other)

pub deep-at : {R : Type 0} (place at p : ℕ) (texts : List (Option (OpenSource R))) (d : Option (OpenSource R)) →
    p ≡ place + at → at < length texts → gaps_from place texts ≡ 0 → DeepAt p (get_or texts at d)
unfolding gaps_from
deep-at place at p [] d is within deep = absurd (omega arith)
deep-at place zero p (slot ∷ texts) d is within deep = grind arith
deep-at place (suc at) p (slot ∷ texts) d is within deep = deep-at (suc place) at p texts d (omega (arith, is))
    (omega arith) (omega (arith, deep))

pub deep-set : {R : Type 0} (place at p : ℕ) (texts : List (Option (OpenSource R))) (slot : Option (OpenSource R)) →
    p ≡ place + at → gaps_from place texts ≡ 0 → DeepAt p slot → gaps_from place (set texts at slot) ≡ 0
unfolding gaps_from
deep-set place at p [] slot is deep top = deep
deep-set place zero p (text ∷ texts) slot is deep top = grind arith
deep-set place (suc at) p (text ∷ texts) slot is deep top =
    grind (arith, deep-set (suc place) at p texts slot (omega (arith, is)) (omega (arith, deep)) top)

pub stops_map : {A B : Type 0} (stop : Stop) → (A → B) → StopsFor A stop → StopsFor B stop
stops_map (ReadFault file) map stops = stops
stops_map (LineTooLong file) map stops = map stops
stops_map TooMuchText map stops = map stops
stops_map Memory map stops = stops
stops_map stop map stops = absurd stops

pub takes_same : (at : Option LineAt) (old mid new : List Thing) (bytes : List ℕ)
    (before before' after : TakenCountersModel) →
    old ≡ mid → before' ≡ before → TakesFirst mid at bytes new before' after → TakesFirst old at bytes new before after
takes_same None old mid new bytes before before' after things count takes = things ∙ takes
takes_same (Some at) old mid new bytes before before' after things count takes =
    subst (λ (b : TakenCountersModel). TakesFirst old (Some at) bytes new b after) count (takes.0, things ∙ takes.1)

pub keeps_stack : {R : Type 0} (old new : Stack R) (at : ℕ) (slot : Option (OpenSource R)) (after : TakenCountersModel)
    → new.texts ≡ set old.texts at slot → maximum_of line_number old.texts ≤ after.lines
    → number_or_zero line_number slot ≤ after.lines → number_or_zero files_up_to slot ≤ maximum_of files_up_to old.texts
    → AreDeep old.texts → DeepAt at slot → KeepsStack old new after
keeps_stack old new at slot after is few number file deep here = grind (arith, most_set, deep-set)
