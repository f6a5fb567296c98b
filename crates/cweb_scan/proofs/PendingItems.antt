-- Lexemes over some lines: each is one slice of the source.
use Rattle.cweb_scan.proofs.Common.{◌≡◌, ◌≤◌, ◌<◌, ℕ, ◌+◌, ◌*◌, Bool, true, false, List, [], ◌∷◌, ◌++◌, length, take, drop, refl, ap, sym, ◌∙◌, arith, if◌then◌else◌, length-append, append_assoc, append-nil, take-append-add, drop-append-add, drop_all, Place, begins, is_line_end, at_line_ends, reach, reach_size, RuleMatch, Cut, IsLine, IsLine-take, opens_in, Reading, each_line_end, next_line, enter_in, item, after_lexeme, lex, next_match, ScanState, weight, AppliesOver, passed, ReaderModel, MakesProgress, BeginsLine, Between, Pending, holding, with_line, IsPending, IsStored, item_of, is_pending, is_between, drop-append-le, length-drop, get_or, ends-append, Look, and_parts, and_from, ◌==◌, HasItemRoom, move_to}
use Rattle.cweb_scan.specs.declared.reader.open.Open as code
use Rattle.cweb_scan.specs.declared.reader.open.Open.TheVariants as kinds
use Rattle.std.proofs.Common.{drop-cons}
use Rattle.cweb_rules.proofs.UnitNewlines.{none-ends}
use Rattle.cweb_scan.proofs.FirstMatchTaken.{between}
use Rattle.cweb_scan.proofs.WholeItems.{TakesWhole}
use Rattle.cweb_scan.proofs.OpeningSteps.{opened}
use Rattle.cweb_rules.specs.inner.LineItems.{goes_on}
use Rattle.cweb_scan.proofs.CrossedLineEnds.{CrossesNewline, crossed_how, crossed_size, crossed_ended}
use Rattle.cweb_scan.proofs.TakenItems.{reading, run_as}
use Rattle.cweb_scan.proofs.Walked.{run-walks}
use Rattle.cweb_scan.proofs.Weights.{weighs}

-- The next lexeme, whether it leaves an item open, and that it ends no head.
pub record IsNext (s : ScanState) (u : List ℕ) (f : RuleMatch) (opens : Bool) : Type 0 where
  pub is : next_match s u ≡ f
  pub opens_is : opens_in s.context u ≡ opens
  pub stays : enter_in s.context (next_match s u).kind s ≡ s

-- A step for each newline of some bytes.
pub each-passed : (f : Place → ScanState → ScanState) (bytes : List ℕ) (ps : List Place) (s : ScanState)
    (later : List Place) → at_line_ends 1 bytes ≡ length ps
    → each_line_end f bytes (reading s (ps ++ later)) ≡ reading (passed f ps s) later
each-passed f [] [] s later h = refl
each-passed f [] (p ∷ ps) s later h = absurd (omega (arith, h))
each-passed f (b ∷ t) ps s later h = one_passed f t ps s later (is_line_end b)
    (λ qs v e. each-passed f t qs v later e) h
  where
    one_passed : (f : Place → ScanState → ScanState) (t : List ℕ) (ps : List Place) (s : ScanState) (later : List Place)
        (v : Bool) → ((qs : List Place) (v : ScanState) → at_line_ends 1 t ≡ length qs
        → each_line_end f t (reading v (qs ++ later)) ≡ reading (passed f qs v) later)
        → (if v then 1 + at_line_ends 1 t else at_line_ends 1 t) ≡ length ps
        → each_line_end f t (if v then next_line f (reading s (ps ++ later)) else reading s (ps ++ later))
        ≡ reading (passed f ps s) later
    one_passed f t ps s later false rest e = rest ps s e
    one_passed f t [] s later true rest e = absurd (omega (arith, e))
    one_passed f t (p ∷ ps) s later true rest e = rest ps (f p s) (omega (arith, e))

pub passed_next : (f : Place → ScanState → ScanState) (ps : List Place) (i : ℕ) (d : Place) (s : ScanState)
    → i < length ps → passed f (drop (i + 1) ps) (f (get_or ps i d) s) ≡ passed f (drop i ps) s
passed_next f ps i d s h = grind (arith, drop-cons)

-- Moves over lines need no room.
pub moved_room : (n : ℕ) (ps : List Place) (s : ScanState) → HasItemRoom n s → HasItemRoom n (passed move_to ps s)
moved_room n [] s h = h
moved_room n (p ∷ ps) s h = moved_room n ps (move_to p s) (record {
  for_tokens = h.for_tokens;
  for_a_part = h.for_a_part;
  for_an_occurrence = h.for_an_occurrence;
  for_a_section = h.for_a_section;
})

-- An item that its line leaves open.
pub holds_at : (u : List ℕ) (h new : ReaderModel) → h.item ≡ Between → 1 ≤ length u → new ≡ holding u h
    → MakesProgress (length u) u h new
holds_at u h new none some is = grind (arith, reading, drop_all)

pub with_line-is : (w line : List ℕ) → with_line w line ≡ w ++ 10 ∷ line
with_line-is w line = append_assoc w (10 ∷ []) line

pub with_line-length : (w line : List ℕ) → length (with_line w line) ≡ length w + 1 + length line
with_line-length w line = omega (arith, length-append (w ++ 10 ∷ []) line, length-append w (10 ∷ []))

-- The line ends it.
pub pending_ends : (w line : List ℕ) (ps : List Place) (q : Place) (s new : ScanState) (g : Bool) (n k : ℕ) → g ≡ true
    → n ≡ length w + 1 + k → TakesWhole n (with_line w line) (ps ++ q ∷ []) s new
    → BeginsLine q line k (opened s g (Pending w ps)) (between new g)
pending_ends w line ps q s new g n k begun past t =
    grind (arith, length-append, reading, drop-append-add, append_assoc, with_line-is, with_line-length)

-- Its newlines.
pub pending_newlines : (w line : List ℕ) (k : ℕ) → IsLine line
    → at_line_ends 1 (take (length w + 1 + k) (with_line w line)) ≡ at_line_ends 1 w + 1
pending_newlines w line k h =
    let start : length w + 1 + k ≡ length (w ++ 10 ∷ []) + k = omega (arith, length-append w (10 ∷ [])) in
    let bytes = ap (λ n. take n (with_line w line)) start ∙ take-append-add (w ++ 10 ∷ []) line k in
    omega (
      arith,
      ap (at_line_ends 1) bytes,
      ends-append (w ++ 10 ∷ []) (take k line),
      ends-append w (10 ∷ []),
      none-ends (take k line) (IsLine-take k line h),
    )

pub all_newlines : (w line : List ℕ) → IsLine line → at_line_ends 1 (with_line w line) ≡ at_line_ends 1 w + 1
all_newlines w line h = grind (arith, ends-append, none-ends)

-- So many newlines fit into the bytes.
pub newlines_fit : (t : List ℕ) → at_line_ends 1 t ≤ length t
newlines_fit [] = omega arith
newlines_fit (b ∷ t) = grind (arith, newlines_fit t)

pub begins_more : (sign w more : List ℕ) → begins sign w ≡ true → begins sign (w ++ more) ≡ true
begins_more [] w more h = refl
begins_more (x ∷ sign) [] more h = cc
begins_more (x ∷ sign) (b ∷ w) more h =
    grind (arith, and_parts, and_from, begins_more sign w more (and_parts (x == b) (begins sign w) h).1)

-- The whole source of a pending item that the source's end ends.
pub pending_finished : (s new : ScanState) (u : List ℕ) (ps : List Place) (n : ℕ) (f : RuleMatch) → 1 ≤ length u
    → enter_in s.context (next_match s u).kind s ≡ s → next_match s u ≡ f → f.size ≡ length u
    → AppliesOver f u ps n s new → new ≡ (lex (reading s (ps ++ [])) (u ++ [])).state
pending_finished s new [] ps n f some stays is all applies = absurd (omega (arith, some))
pending_finished s new (b ∷ t) ps n f some stays is all applies =
    let u = b ∷ t in
    let r = reading s (ps ++ []) in
    sym (ap (λ (v : List ℕ). (lex r v).state) (append-nil u)
    ∙ ap (λ (m : Reading). m.state) (run_as r b t f is)
    ∙ ap (λ (v : List ℕ). (lex (after_lexeme r (record { kind = f.kind; bytes = take f.size u })) v).state)
    (drop_all f.size u (omega (arith, all)))
    ∙ ap (λ (v : ScanState). (item f.kind (take f.size u) (reading v (ps ++ []))).state)
    (ap (λ (g : RuleMatch). enter_in s.context g.kind s) (sym is) ∙ stays)
    ∙ ap (λ (m : Reading). m.state) (applies.state []))

pub pending-weight : (w : List ℕ) (ps : List Place) (s : ScanState)
    → weight (lex (reading s (ps ++ [])) (w ++ [])).state ≤ weight s + 3 * length w
pending-weight w ps s = omega (arith, run-walks weighs (reading s (ps ++ [])) (w ++ []), length-append w [])

-- The next line leaves it open, or ends it, as it does with the rest of an item.
pub over : (look : List ℕ → Look) → CrossesNewline look → (k : ℕ) (w line : List ℕ) → k ≤ length w
    → goes_on look (drop k w) ≡ true → (goes_on look (drop k (with_line w line)) ≡ goes_on look line)
    × (k + reach_size (reach look Cut (drop k (with_line w line))) ≡ length w + 1 + reach_size (reach look Cut line))
over look o k w line fits h = grind (arith, with_line-is, drop-append-le, crossed_how, crossed_size, length-drop)

pub over_ended : (look : List ℕ → Look) → CrossesNewline look → (k : ℕ) (w : List ℕ) → k ≤ length w
    → goes_on look (drop k w) ≡ true → k + reach_size (reach look Cut (drop k w)) ≡ length w
over_ended look o k w fits h = omega (arith, crossed_ended look o (drop k w) h, length-drop k w, fits)

-- What the reader holds.
pub pending_as : (kind : code.Open) (w : List ℕ) (ps : List Place) → is_between kind ≡ false
    → item_of kind w ps ≡ Pending w ps
pending_as kinds.Between w ps h = cc
pending_as _ w ps h = refl

pub pending_kind : (kind : code.Open) (w : List ℕ) (ps : List Place) → is_pending (item_of kind w ps) ≡ true
    → is_between kind ≡ false
pending_kind kinds.Between w ps h = cc
pending_kind _ w ps h = refl

pub record Holds (kind : code.Open) (s : ScanState) (g : Bool) (w : List ℕ) (ps : List Place) (h : ReaderModel)
    : Type 0 where
  pub view : opened s g (Pending w ps) ≡ h
  pub pending : is_between kind ≡ false
  pub source : IsPending kind s.context w ps

pub pending_now : (kind : code.Open) (s : ScanState) (g : Bool) (w : List ℕ) (ps : List Place) (h : ReaderModel)
    → opened s g (item_of kind w ps) ≡ h → is_pending h.item ≡ true → IsStored kind s.context w ps
    → Holds kind s g w ps h
pending_now kind s g w ps h is pending stored = grind (arith, pending_kind, pending_as)
