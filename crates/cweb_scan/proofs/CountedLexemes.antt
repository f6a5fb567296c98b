-- Sections and occurrences are those of the lexemes.
use Rattle.cweb_scan.proofs.Common.{◌≡◌, ℕ, ◌+◌, Bool, true, false, List, [], ◌∷◌, ◌++◌, Option, Some, None, length, refl, ap, sym, ◌∙◌, arith, append_assoc, append-nil, length-append, subst, fold, add_name, option_to_list, Place, Line, NameRef, Context, Limbo, TeX, Macro, CText, Effect, Define, Format, Program, End, Cut, Kind, Lexeme, Skipped, Section, Code, Defined, unescaped, ScanState, leave_in, leave, begin_section, end_macro_in, name_occurrence, Reading, item, after_lexeme, enter, apply_effect, define, report_name_fault, name_in_context, each_line_end, move_to, source_start}
use Rattle.std.specs.List.{filter_map, cons_option}
use Rattle.cweb_rules.specs.Matches.{Occurrence}
use Rattle.cweb_store.specs.Names as names
use Rattle.cweb_scan.specs.laws.Laws.{lexemes_of_lines, section_start, section_starts, starred_numbers}
use Rattle.cweb_scan.specs.laws.Laws.{occurrence_of_kind, SectionsAreSectionStarts, OccurrencesAreLexemes}
use Rattle.cweb_scan.proofs.SmallSteps.{Preserves, IsSmallKind, moved, enter-holds, item-holds}

-- The sections and the occurrences stay.
abbrev pub Same : ScanState → ScanState → Type 0
Same s m = (m.sections ≡ s.sections) × (m.starred ≡ s.starred) × (m.contents.occurrences ≡ s.contents.occurrences)

stays_same : (s : ScanState) → Preserves (Same s)
stays_same s = grind arith

same : (s : ScanState) → Same s s
same s = (refl, refl, refl)

then_same : (s m k : ScanState) → Same s m → Same m k → Same s k
then_same s m k x y = (y.0 ∙ x.0, y.1 ∙ x.1, y.2 ∙ x.2)

macro-same : (c : Context) (s : ScanState) → Same s (end_macro_in c s)
macro-same Macro s = same s
macro-same _ s = same s

pub leave-same : (c : Context) (s : ScanState) → Same s (leave_in c s)
leave-same Limbo s = same s
leave-same _ s = same s

effect-same : (e : Effect) (s : ScanState) → Same s (apply_effect e s)
effect-same Define s = macro-same s.context s
effect-same Format s = macro-same s.context s
effect-same Program s = macro-same s.context s
effect-same _ s = same s

define-same : (bytes : List ℕ) (tight : Bool) (s : ScanState) → Same s (define bytes tight s)
define-same bytes true s = same s
define-same bytes false s = same s

fault-same : (how : End) (p : Place) (s : ScanState) → Same s (report_name_fault how p s)
fault-same Cut p s = same s
fault-same _ p s = same s

context-same : (c : Context) (n : NameRef) (opens : Bool) (p : Place) (s : ScanState)
    → Same s (name_in_context c n opens p s)
context-same TeX n true p s = macro-same s.context s
context-same TeX n false p s = macro-same s.context s
context-same Macro n true p s = macro-same s.context s
context-same Macro n false p s = macro-same s.context s
context-same CText n true p s = same s
context-same CText n false p s = same s
context-same _ n opens p s = same s

-- The state counts the sections that begin, and has the occurrences that come.
record Counts (s m : ScanState) (starts : List Bool) (named : List names.Occurrence) : Type 0 where
  pub number : m.sections ≡ s.sections + length starts
  pub starred : m.starred ≡ s.starred ++ starred_numbers (s.sections + 1) starts
  pub occurrences : m.contents.occurrences ≡ s.contents.occurrences ++ named

nothing : {s m : ScanState} → Same s m → Counts s m [] []
nothing {s} {m} h = grind (arith, append-nil)

section-counts : (starred : Bool) (s : ScanState) → Counts s (begin_section starred s) (starred ∷ []) []
section-counts starred s = grind (arith, leave-same, append-nil)

name-counts : (is_file : Bool) (units : List (List ℕ)) (how : End) (opens : Bool) (bytes : List ℕ) (r : Reading)
    → Counts r.state (item (Occurrence is_file units how opens) bytes r).state []
    (name_occurrence is_file (unescaped units) ∷ [])
name-counts is_file units how opens bytes r =
    let o = name_occurrence is_file (unescaped units) in
    let m = (each_line_end move_to bytes r).state in
    let x = moved (stays_same r.state) bytes r (same r.state) in
    let a = add_name o m in
    let b = report_name_fault how r.state.here a in
    let n : NameRef = record { 0 = length m.contents.occurrences } in
    let y = then_same a b (name_in_context m.context n opens r.state.here b)
    (fault-same how r.state.here a) (context-same m.context n opens r.state.here b) in
    record {
      number = omega (arith, y.0, x.0);
      starred = y.1 ∙ x.1 ∙ sym (append-nil r.state.starred);
      occurrences = y.2 ∙ ap (λ os. os ++ o ∷ []) x.2;
    }

small-counts : (k : Kind) (bytes : List ℕ) (r : Reading) → IsSmallKind k → Counts r.state (item k bytes r).state [] []
small-counts k bytes r small = nothing (item-holds (stays_same r.state) k bytes r small (same r.state))

item-counts : (k : Kind) (bytes : List ℕ) (r : Reading) → Counts r.state (item k bytes r).state
    (option_to_list (section_start k)) (option_to_list (occurrence_of_kind k))
item-counts (Section starred) bytes r = section-counts starred r.state
item-counts (Code effect) bytes r = nothing (effect-same effect r.state)
item-counts (Occurrence is_file units how opens) bytes r = name-counts is_file units how opens bytes r
item-counts (Defined tight) bytes r = nothing (define-same bytes tight r.state)
item-counts Skipped bytes r = small-counts Skipped bytes r tt
item-counts k bytes r = small-counts k bytes r tt

-- Two counts after each other.
starred-append : (n : ℕ) (a b : List Bool)
    → starred_numbers n (a ++ b) ≡ starred_numbers n a ++ starred_numbers (n + length a) b
starred-append n [] b = ap (λ m. starred_numbers m b) (let e : n ≡ n + 0 = omega arith in e)
starred-append n (x ∷ a) b = grind (arith, append_assoc, starred-append (n + 1) a b)

both : {s m k : ScanState} {a b : List Bool} {x y : List names.Occurrence} → Counts s m a x → Counts m k b y
    → Counts s k (a ++ b) (x ++ y)
both {s} {m} {k} {a} {b} {x} {y} f g = grind (arith, length-append, append_assoc, starred-append)

cons-option : {X : Type 0} (o : Option X) (xs : List X) → option_to_list o ++ xs ≡ cons_option o xs
cons-option None xs = refl
cons-option (Some x) xs = refl

lexemes-count : (ps : List Lexeme) (r : Reading) → Counts r.state (fold after_lexeme r ps).state (section_starts ps)
    (filter_map (λ p. occurrence_of_kind p.kind) ps)
lexemes-count [] r = nothing (same r.state)
lexemes-count (p ∷ ps) r =
    let starts = section_starts ps in
    let named = filter_map (λ (q : Lexeme). occurrence_of_kind q.kind) ps in
    let entered : Counts r.state (enter p.kind r.state) [] [] =
    nothing (enter-holds (stays_same r.state) p.kind r.state (same r.state)) in
    let one = both entered (item-counts p.kind p.bytes (record r { state = enter p.kind r.state })) in
    let all = both one (lexemes-count ps (after_lexeme r p)) in
    subst (λ a. Counts r.state (fold after_lexeme r (p ∷ ps)).state a
    (cons_option (occurrence_of_kind p.kind) named)) (cons-option (section_start p.kind) starts)
    (subst (Counts r.state (fold after_lexeme r (p ∷ ps)).state (option_to_list (section_start p.kind) ++ starts))
    (cons-option (occurrence_of_kind p.kind) named) all)

lines-count : (line : Line) (lines : List Line) →
    let r = source_start line lines in
    let ps = lexemes_of_lines (line ∷ lines) in
    Counts r.state (leave (fold after_lexeme r ps).state) (section_starts ps)
    (filter_map (λ p. occurrence_of_kind p.kind) ps)
lines-count line lines = grind (arith, lexemes-count, leave-same)

pub sections_are_section_starts : (lines : List Line) → SectionsAreSectionStarts lines
sections_are_section_starts [] = record { number = refl; starred = refl }
sections_are_section_starts (line ∷ lines) = grind (arith, lines-count)

pub occurrences_are_lexemes : (lines : List Line) → OccurrencesAreLexemes lines
occurrences_are_lexemes [] = refl
occurrences_are_lexemes (line ∷ lines) = (lines-count line lines).occurrences
