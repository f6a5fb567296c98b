-- Each lexeme has the place of the line of its first byte.
use Rattle.cweb_scan.proofs.Common.{◌≡◌, ◌≤◌, ℕ, zero, suc, ◌+◌, List, [], ◌∷◌, ◌++◌, Some, length, drop, refl, ap, sym, ◌∙◌, subst, arith, flat_map-append, All, fold, slice_get, drop-nil, length-map, length-drop, All-head, All-tail, Place, Line, HasNoNewline, Lexeme, at_line_ends, Reading, after_lexeme, next_line, move_to, places, AreLexemes, newline_prefixed, source_start, newlines, LexemesKeepLines, ScanState}
use Rattle.cweb_rules.proofs.UnitNewlines.{none-ends, ends-append, drop-sum}
use Rattle.cweb_scan.specs.laws.Laws.{joined_lines}
use Rattle.cweb_scan.proofs.LexemesAreUnique.{are_pieces}
use Rattle.cweb_scan.proofs.Scans.{is_line}
use Rattle.cweb_scan.proofs.Walked.{bytes_in, joined, pieces-walk}
use Rattle.cweb_scan.proofs.Moves.{Moves, Any, holds_any}
use Rattle.cweb_scan.proofs.TakenItems.{reading}

-- The current line, and the lines to come.
abbrev places_in : Reading → List Place
places_in r = r.state.here ∷ r.later

-- Each newline advances the place, and nothing else does.
abbrev Valid : ℕ → ℕ → ℕ → ℕ → Reading → Reading → Type 0
Valid n w t b r m = n ≤ length r.later → places_in m ≡ drop n (places_in r)

both-valid : (n k : ℕ) (r m o : Reading) → Valid n 0 0 0 r m → Valid k 0 0 0 m o → Valid (n + k) 0 0 0 r o
both-valid n k r m o x y h =
    let e = x (omega (arith, h)) in
    y (omega (arith, h, ap length e, length-drop n (places_in r))) ∙ ap (drop k) e ∙ sym (drop-sum n k (places_in r))

moved-valid : (s : ScanState) (later : List Place)
    → Valid 1 0 0 0 (reading s later) (next_line move_to (reading s later))
moved-valid s [] h = absurd (omega (arith, h))
moved-valid s (p ∷ later) h = refl

valid : Moves Any Valid
valid = record {
  nothing = λ r h. refl;
  both = λ {n = n} {n' = o} {r = r} {m = m} {k = k} x y. both-valid n o r m k x y;
  within = λ n w t b {r = r} x e h. x (omega (arith, e.0, h)) ∙ ap (λ k. drop k (places_in r)) e.0;
  knowing = λ f. f (holds_any _ _ _);
  advances = λ r. moved-valid r.state r.later;
  yields = λ t r ok h. refl;
  faults = λ k p r ok h. refl;
  enters = λ c r ok h. refl;
  pays = λ t e x. x;
  opens = λ kind r h. refl;
  closes = λ r h. refl;
  drops = λ r h. refl;
  occurs = λ o r h. refl;
  replaces = λ x r h. refl;
  folds = λ v r h. refl;
  numbers = λ n ns r e h. refl;
}

got : (ps : List Place) (k : ℕ) (p : Place) (later : List Place) → p ∷ later ≡ drop k ps → slice_get ps k ≡ Some p
got [] k p later e = let wrong : length (p ∷ later) ≡ 0 = ap length (e ∙ drop-nil k) in absurd (omega (arith, wrong))
got (q ∷ ps) zero p later e = ap (λ l. slice_get l 0) (sym e)
got (q ∷ ps) (suc k) p later e = got ps k p later e

abbrev AreClean : List Line → Type 0
AreClean lines = All (λ (l : Line). HasNoNewline l.bytes) lines

further-ends : (lines : List Line) → AreClean lines → at_line_ends 1 (newline_prefixed lines) ≡ length lines
further-ends [] h = refl
further-ends (line ∷ lines) h =
    omega (
      arith,
      ends-append line.bytes (newline_prefixed lines),
      none-ends line.bytes (is_line line.bytes (All-head (λ (l : Line). HasNoNewline l.bytes) line lines h)),
      further-ends lines (All-tail (λ (l : Line). HasNoNewline l.bytes) line lines h),
    )

text-ends : (line : Line) (lines : List Line) → AreClean (line ∷ lines)
    → at_line_ends 1 (joined_lines line lines) ≤ length (places lines)
text-ends line lines h =
    omega (
      arith,
      ends-append line.bytes (newline_prefixed lines),
      none-ends line.bytes (is_line line.bytes (All-head (λ (l : Line). HasNoNewline l.bytes) line lines h)),
      further-ends lines (All-tail (λ (l : Line). HasNoNewline l.bytes) line lines h),
      length-map lines (λ (l : Line). l.place),
    )

pub keeps_lines : (line : Line) (lines : List Line) → AreClean (line ∷ lines) → LexemesKeepLines line lines
keeps_lines line lines clean before p after e =
    let r = source_start line lines in
    let t = joined_lines line lines in
    let m = fold after_lexeme r before in
    let all = subst (AreLexemes r t) e (are_pieces r t) in
    let ends = ap (at_line_ends 1) (sym (flat_map-append (λ (q : Lexeme). q.bytes) before (p ∷ after))
    ∙ joined r t (before ++ p ∷ after) all) in
    let few : newlines before ≤ length (places lines) =
    omega (arith, ends, ends-append (bytes_in before) (bytes_in (p ∷ after)), text-ends line lines clean) in
    got (places (line ∷ lines)) (newlines before) m.state.here m.later
    (pieces-walk valid before (p ∷ after) r t all few)
