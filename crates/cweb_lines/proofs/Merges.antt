-- The events of a line that was taken.
use Rattle.cweb_lines.proofs.Common.{rules, Option, if◌then◌else◌, ◌≡◌, ◌≤◌, ◌<◌, ◌+◌, ◌==◌, ℕ, Bool, true, false, List, [], ◌∷◌, ◌++◌, Some, None, refl, sym, ◌∙◌, ap, arith, length, append-nil, nat_lt, nat_tests, Place, WaitingEntry, at_place, World, is_include_line, include_name, found_at, Line, SourceLine, lines_in, MergeStateModel, RawLine, Thing, raw, Event, took, emitted, fault, opening, Next, at_raw, included, open_include, obeyed, plain, taking, raws, begun_by, OPEN_FILES, LineAt, SoFar, EmitsLines, taken_lines, reported_faults, openings, emitted_lines, merge, merge_next, SourceFault, NoName, TooDeep, NotThere}

abbrev pub state : List Thing → Option WaitingEntry → List SourceLine → ℕ → MergeStateModel
state things pending change files = record { things = things; pending = pending; change = change; files = files }

-- A line that was taken and begins no change.
module _ (world : World) (source : SourceLine) (bytes : List ℕ) (at : LineAt)
    (is : source.line ≡ record { bytes = bytes; place = at.place }) (things : List Thing)
    (pending : Option WaitingEntry)
    (change : List SourceLine) (files : ℕ)
    (none : begun_by pending at.may_match bytes ≡ None) where
  abbrev r : RawLine
  r = record { source = source; depth = at.depth; may_match = at.may_match }

  abbrev before : MergeStateModel
  before = state (raw r ∷ things) pending change files

  abbrev after : MergeStateModel
  after = state things pending change files

  as_read : {A : Type 0} (f : List ℕ → A) (a : A) → f bytes ≡ a → f source.line.bytes ≡ a
  as_read f a test = ap (λ (l : Line). f l.bytes) is ∙ test

  not_begun : (b : Bool) (place : Place) → (if b then Some place else None) ≡ None → b ≡ false
  not_begun true place unbegun = absurd (cc)
  not_begun false place unbegun = refl

  passes : (p : Option WaitingEntry) → begun_by p at.may_match bytes ≡ None →
      at_raw p world before r things ≡ plain (is_include_line source.line.bytes) world before r things
  passes None unbegun = refl
  passes (Some entry) unbegun = grind (arith, as_read, not_begun)

  merge_plain : (next : Next) → plain (is_include_line source.line.bytes) world before r things ≡ next →
      merge world before ≡ took source ∷ next.0 ++ merge world next.1
  merge_plain next goes = merge_next _ _ _ (ap (λ (n : Next). Some (taking source n)) (passes _ none ∙ goes))

  pub merge_emitted : is_include_line bytes ≡ false → merge world before ≡ took source ∷ emitted
      (record { bytes = bytes; place = at.place }) ∷ merge world after
  merge_emitted test = merge_plain _ (ap (λ b. plain b world before r things) (as_read is_include_line false test))
      ∙ ap (λ (l : Line). took source ∷ emitted l ∷ merge world after) is

  pub merge_no_name : is_include_line bytes ≡ true → include_name bytes ≡ [] →
      merge world before ≡ took source ∷ fault (at_place NoName at.place) ∷ merge world after
  merge_no_name test empty = merge_plain _ (ap (λ b. plain b world before r things) (as_read is_include_line true test)
      ∙ ap (λ n. included n world before r things) (as_read include_name [] empty))
      ∙ ap (λ (l : Line). took source ∷ fault (at_place NoName l.place) ∷ merge world after) is

  merge_named : (name : List ℕ) (next : Next) → is_include_line bytes ≡ true → include_name bytes ≡ name
      → 0 < length name →
      open_include (nat_lt at.depth OPEN_FILES) world name before r things ≡ next
      → merge world before ≡ took source ∷ next.0 ++ merge world next.1
  merge_named [] next test named some opens = absurd (omega arith)
  merge_named (b ∷ bs) next test named some opens = grind (arith, merge_plain, as_read)

  pub merge_too_deep : is_include_line bytes ≡ true → 0 < length (include_name bytes) → OPEN_FILES ≤ at.depth →
      merge world before ≡ took source ∷ fault (at_place TooDeep at.place) ∷ merge world after
  merge_too_deep test some deep =
      let room : nat_lt at.depth OPEN_FILES ≡ false = grind (arith, nat_tests) in
      merge_named (include_name bytes) (fault (at_place TooDeep source.line.place) ∷ [], after) test refl some
      (ap (λ t. open_include t world (include_name bytes) before r things) room)
      ∙ ap (λ (l : Line). took source ∷ fault (at_place TooDeep l.place) ∷ merge world after) is

  pub merge_not_there : is_include_line bytes ≡ true → 0 < length (include_name bytes) → at.depth < OPEN_FILES →
      None ≡ found_at world (include_name bytes)
      → merge world before ≡ took source ∷ fault (at_place NotThere at.place) ∷ merge world after
  merge_not_there test some deep gone =
      let room : nat_lt at.depth OPEN_FILES ≡ true = grind (arith, nat_tests) in
      merge_named (include_name bytes) (fault (at_place NotThere source.line.place) ∷ [], after) test refl some (ap
      (λ t. open_include t world (include_name bytes) before r things) room
      ∙ ap (λ o. obeyed o before r things) (sym gone))
      ∙ ap (λ (l : Line). took source ∷ fault (at_place NotThere l.place) ∷ merge world after) is

  pub merge_opens : (name text : List ℕ) → is_include_line bytes ≡ true → 0 < length (include_name bytes) →
      at.depth < OPEN_FILES → Some (name, text) ≡ found_at world (include_name bytes)
      → merge world before ≡ took source ∷ opening name ∷ merge world
      (state (raws (at.depth + 1) at.may_match (lines_in files text) ++ things) pending change (files + 1))
  merge_opens name text test some deep there =
      let room : nat_lt at.depth OPEN_FILES ≡ true = grind (arith, nat_tests) in
      merge_named (include_name bytes) (
        opening name ∷ [],
        state
            (raws (at.depth + 1) at.may_match (lines_in files text) ++ things) pending change (files + 1),
      ) test refl some
      (ap (λ t. open_include t world (include_name bytes) before r things) room
      ∙ ap (λ o. obeyed o before r things) (sym there))

pub merge_takes : (world : World) (r : RawLine) (things : List Thing) (pending : Option WaitingEntry)
    (change : List SourceLine) (files : ℕ)
    → (rest : List Event) × (merge world (state (raw r ∷ things) pending change files) ≡ took r.source ∷ rest)
merge_takes world r things pending change files =
    let next = at_raw _ _ _ r _ in (next.0 ++ merge _ _, merge_next _ _ _ refl)

-- At most one event happened.
module _ (old new : SoFar) (all later : List Event) (count : new.count ≡ old.count) where
  yields_untaken : (events : List Event) → taken_lines events ≡ [] → all ≡ events ++ later → new.faults ≡ old.faults
      ++ reported_faults events → new.names ≡ old.names ++ openings events
      → EmitsLines (emitted_lines events) old new all later
  yields_untaken events none whole faults names = grind arith

  pub yields_fault : (f : SourceFault) → all ≡ fault f ∷ later → new.faults ≡ old.faults ++ f ∷ [] →
      new.names ≡ old.names → EmitsLines [] old new all later
  yields_fault f whole faults names = yields_untaken (fault f ∷ []) refl whole faults (simp (names, append-nil))

  pub yields_opening : (name : List ℕ) → all ≡ opening name ∷ later → new.faults ≡ old.faults →
      new.names ≡ old.names ++ name ∷ [] → EmitsLines [] old new all later
  yields_opening name whole faults names = yields_untaken (opening name ∷ []) refl whole
      (simp (faults, append-nil)) names

  pub yields_line : (line : Line) → all ≡ emitted line ∷ later → new.faults ≡ old.faults → new.names ≡ old.names →
      EmitsLines (line ∷ []) old new all later
  yields_line line whole faults names = yields_untaken (emitted line ∷ []) refl whole (simp (faults, append-nil))
      (simp (names, append-nil))

  pub yields_nothing : all ≡ later → new.faults ≡ old.faults → new.names ≡ old.names → EmitsLines [] old new all later
  yields_nothing whole faults names = search rules

pub empty_is : (xs : List ℕ) → (length xs == 0) ≡ true → xs ≡ []
empty_is [] is = refl
empty_is (x ∷ xs) is = absurd (grind (arith, nat_tests))

pub some_are : (xs : List ℕ) → (length xs == 0) ≡ false → 0 < length xs
some_are [] is = absurd (cc)
some_are (x ∷ xs) is = omega arith
