-- Without a pending change, lines merge independently of those before them, and file numbers don't matter.
use Rattle.cweb_lines.proofs.Common.{length-append, OPEN_FILES, nat_lt, ◌≡◌, ◌+◌, ℕ, zero, suc, Bool, true, false, List, [], ◌∷◌, ◌++◌, None, Some, Option, refl, sym, ◌∙◌, ap, arith, length, append_assoc, AllByRecursion, SourceLine, lines_in, World, Found, found_at, include_name, is_include_line, at_place, Event, Next, RawLine, MergeStateModel, Thing, fault, emitted, included, obeyed, onto, open_include, opening, passed, plain, raw, raws, run_steps, seek, taking, reported, took, openings, merge, merge_next, NoName, NotThere, TooDeep}
use Rattle.cweb_lines.proofs.Merges.{state}
use Rattle.cweb_lines.proofs.EmittedLinesAddUp.{openings-append}
use Rattle.cweb_lines.proofs.EnoughSteps.{onto_some}

-- A raw line that begins no change: its events, and the lines that it opens, whatever comes after it.
module _ (world : World) (r : RawLine) (change : List SourceLine) (files : ℕ) where
  abbrev before : List Thing → MergeStateModel
  before things = state (raw r ∷ things) None change files

  pub record Goes (next : List Thing → Next) : Type 0 where
    pub events : List Event
    pub lines : List SourceLine
    pub opened : ℕ
    pub count : opened ≡ files + length (openings events)
    pub is : (things : List Thing) → next things
        ≡ (events, state (raws (r.depth + 1) r.may_match lines ++ things) None change opened)

  stays : (next : List Thing → Next) (event : Event) → openings (event ∷ []) ≡ []
      → ((things : List Thing) → next things ≡ (event ∷ [], state things None change files)) → Goes next
  stays next event none is =
      record { events = event ∷ []; lines = []; opened = files; count = grind arith; is = λ things. is things }

  by_found : (found : Option Found) → Goes (λ things. obeyed found (before things) r things)
  by_found None = stays _ (fault (at_place NotThere r.source.line.place)) refl (λ things. refl)
  by_found (Some found) = record {
    events = opening found.0 ∷ [];
    lines = lines_in files found.1;
    opened = files + 1;
    count = omega arith;
    is = λ things. refl;
  }

  by_room : (b : Bool) (name : List ℕ) → Goes (λ things. open_include b world name (before things) r things)
  by_room false name = stays _ (fault (at_place TooDeep r.source.line.place)) refl (λ things. refl)
  by_room true name = by_found (found_at world name)

  by_name : (name : List ℕ) → Goes (λ things. included name world (before things) r things)
  by_name [] = stays _ (fault (at_place NoName r.source.line.place)) refl (λ things. refl)
  by_name (b ∷ bs) = by_room (nat_lt r.depth OPEN_FILES) (b ∷ bs)

  goes : (b : Bool) → Goes (λ things. plain b world (before things) r things)
  goes false = stays _ (emitted r.source.line) refl (λ things. refl)
  goes true = by_name (include_name r.source.line.bytes)

abbrev pub IsNoSearch : Thing → Type 0
IsNoSearch seek = ⊥
IsNoSearch (raw r) = Unit {0}
IsNoSearch (reported f) = Unit {0}
IsNoSearch (passed line) = Unit {0}

pub raws_seek_not : (depth : ℕ) (may_match : Bool) (lines : List SourceLine) (things : List Thing)
    → AllByRecursion IsNoSearch things → AllByRecursion IsNoSearch (raws depth may_match lines ++ things)
raws_seek_not depth may_match [] things none = none
raws_seek_not depth may_match (line ∷ lines) things none = (tt, raws_seek_not depth may_match lines things none)

-- The things in `later` merge as they do alone.
module _ (world : World) (later : List Thing) (change : List SourceLine) where
  abbrev coming_of : ℕ → List Thing → List Event
  coming_of files things = merge world (state things None change files)

  -- These events come first, then those of `later`, with the opened files counted.
  abbrev Comes : ℕ → List Thing → List Event → Type 0
  Comes files things events =
      coming_of files (things ++ later) ≡ events ++ coming_of (files + length (openings events)) later

  abbrev Runs : ℕ → ℕ → List Thing → List Event → Type 0
  Runs n files things events = run_steps n world (state things None change files) ≡ Some events

  prefix_none : (files : ℕ) (events : List Event) → Some [] ≡ Some events → Comes files [] events
  prefix_none files [] is = ap (λ f. coming_of f later) (omega arith)
  prefix_none files (e ∷ es) is = absurd (cc)

  pub prefix : (n files : ℕ) (things : List Thing) (events : List Event) → AllByRecursion IsNoSearch things
      → Runs n files things events → Comes files things events
  prefix zero files things events none is = absurd (cc)
  prefix (suc n) files [] events none is = prefix_none files events is
  prefix (suc n) files (seek ∷ things) events none is = absurd none.0
  prefix (suc n) files (reported f ∷ things) events none is =
      let x = onto_some (fault f ∷ []) events (run_steps n world (state things None change files)) is in
      merge_next world (state (reported f ∷ things ++ later) None change files) _ refl
      ∙ ap (λ (es : List Event). fault f ∷ es) (prefix n files things x.0 none.1 x.1)
      ∙ ap (λ (es : List Event). es ++ coming_of (files + length (openings es)) later) x.2
  prefix (suc n) files (passed line ∷ things) events none is =
      let x = onto_some (took line ∷ []) events (run_steps n world (state things None change files)) is in
      merge_next world (state (passed line ∷ things ++ later) None change files) _ refl
      ∙ ap (λ (es : List Event). took line ∷ es) (prefix n files things x.0 none.1 x.1)
      ∙ ap (λ (es : List Event). es ++ coming_of (files + length (openings es)) later) x.2
  prefix (suc n) files (raw r ∷ things) events none is =
      let g = goes world r change files (is_include_line r.source.line.bytes) in
      let lines = raws (r.depth + 1) r.may_match g.lines in
      let first = took r.source ∷ g.events in
      let x = onto_some first events (run_steps n world (state (lines ++ things) None change g.opened))
      (sym (ap (λ (next : Next). onto (took r.source ∷ next.0) (run_steps n world next.1)) (g.is things)) ∙ is) in
      let number : g.opened + length (openings x.0) ≡ files + length (openings (first ++ x.0)) =
      omega
      (arith, g.count, ap length (openings-append g.events x.0), length-append (openings g.events) (openings x.0)) in
      merge_next world (state (raw r ∷ things ++ later) None change files) _
      (ap (λ (next : Next). Some (taking r.source next)) (g.is (things ++ later)))
      ∙ ap (λ (ts : List Thing). first ++ coming_of g.opened ts) (sym (append_assoc lines things later))
      ∙ ap (λ (es : List Event). first ++ es)
      (prefix n g.opened (lines ++ things) x.0 (raws_seek_not (r.depth + 1) r.may_match g.lines things none.1) x.1)
      ∙ ap (λ f. first ++ (x.0 ++ coming_of f later)) number
      ∙ sym (append_assoc first x.0 (coming_of (files + length (openings (first ++ x.0))) later))
      ∙ ap (λ (es : List Event). es ++ coming_of (files + length (openings es)) later) x.2
