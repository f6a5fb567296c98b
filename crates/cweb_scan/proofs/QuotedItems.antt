-- Literals, raw or not, and included names, as one slice of the source.
use Rattle.cweb_scan.proofs.Common.{ℕ, ◌≡◌, ◌≤◌, ◌+◌, true, false, ◌==◌, List, [], ◌∷◌, ◌++◌, length, take, drop, refl, ap, sym, ◌∙◌, subst, arith, codes, flat_map, bytes_eq, append_assoc, append-nil, length-append, take-append-drop, flat_map-append, fold-append, Place, Look, Goes, at_line_ends, Reach, reach, body, unescaped, unit_bytes, Cut, Open, Reached, reached, emit_literal, on, ScanState, AppliesOver, ended_as, PassesUnits, quoted_as, ends-append, and_parts, if◌then◌else◌, length-take-le, DoubleAtInString, report, each_line_end, move_to, passed}
use Rattle.cweb_rules.specs.declared.items.Item.{Item}
use Rattle.cweb_rules.specs.inner.LineItems.{look_of}
use Rattle.cweb_rules.proofs.UnitNewlines.{quoted-bytes}
use Rattle.cweb_scan.proofs.Ends.{item-some, reach-at_end, size-at_end, how-at_end, at_start}
use Rattle.cweb_scan.proofs.PendingItems.{each-passed}
use Rattle.cweb_scan.proofs.TakenItems.{reading}

-- Units one after another.
pub passes_both : (us vs : List (List ℕ)) (a b c : List Place) (s t v : ScanState) → PassesUnits us a b s t
    → PassesUnits vs b c t v → PassesUnits (us ++ vs) a c s v
passes_both us vs a b c s t v x y = grind (arith, fold-append, reading, flat_map-append, ends-append)

pub passes_none : (a : List Place) (s : ScanState) → PassesUnits [] a a s s
passes_none a s = grind arith

-- Some units were passed, and the rest are to come.
pub record PassesRest (us rest : List (List ℕ)) (places left : List Place) (old mid : ScanState) : Type 0 where
  pub goes_on : (end : List Place) (new : ScanState) → PassesUnits rest left end mid new
      → PassesUnits us places end old new
  pub lines : at_line_ends 1 (flat_map (λ u. u) rest) ≤ length left

pub passes_first : (us rest : List (List ℕ)) (unit : List ℕ) (later : List (List ℕ)) (a b c : List Place)
    (s t v : ScanState) → rest ≡ unit ∷ later → PassesRest us rest a b s t → PassesUnits (unit ∷ []) b c t v
    → PassesRest us later a c s v
passes_first us rest unit later a b c s t v is x y = record {
  goes_on = λ end new z. x.goes_on end new (subst (λ (w : List (List ℕ)). PassesUnits w b end t new) (sym is)
      (passes_both (unit ∷ []) later b c end t v new y z));
  lines = omega (
    arith,
    x.lines,
    y.lines,
    ap (λ (w : List (List ℕ)). at_line_ends 1 (flat_map (λ u. u) w)) is,
    ends-append unit (flat_map (λ u. u) later),
    ap (at_line_ends 1) (append-nil unit),
  );
}

pub passes_last : (us rest : List (List ℕ)) (a b : List Place) (s t : ScanState) → rest ≡ []
    → PassesRest us rest a b s t
    → PassesUnits us a b s t
passes_last us rest a b s t is x = x.goes_on b t
    (subst (λ (w : List (List ℕ)). PassesUnits w b b t t) (sym is) (passes_none b t))

pub no_units : (look : List ℕ → Look) (t : List ℕ) → length t ≡ 0 → (reach look Open t).units ≡ []
no_units look [] h = refl
no_units look (b ∷ t) h = absurd (omega (arith, h))

pub ended_units : (look : List ℕ → Look) (t : List ℕ) (v : Look) → v ≡ look t → ((n : ℕ) → v ≡ Goes n → ⊥)
    → (reach look Open t).units ≡ []
ended_units look [] v is none = refl
ended_units look (b ∷ t) v is none = grind (arith, at_start)

pub quoted_passes : (first close : List ℕ) (us : List (List ℕ)) (a b c d : List Place) (s t v w : ScanState)
    → PassesUnits (first ∷ []) a b s t → PassesUnits us b c t v → PassesUnits (close ∷ []) c d v w
    → PassesUnits (first ∷ us ++ close ∷ []) a d s w
quoted_passes first close us a b c d s t v w x y z =
    passes_both (first ∷ []) (us ++ close ∷ []) a b d s t w x (passes_both us (close ∷ []) b c d t v w y z)

-- The units of a literal, opener and closer included.
abbrev pub all_units : ℕ → Reach → List ℕ → List (List ℕ)
all_units k r t = take k t ∷ r.units ++ take r.close (drop (k + length (body r)) t) ∷ []

no_place_left : (left : List Place) → length left ≡ 0 → left ≡ []
no_place_left [] h = refl
no_place_left (p ∷ ps) h = absurd (omega (arith, h))

moved_same : (ps : List Place) (s : ScanState) → ((passed move_to ps s).context ≡ s.context)
    × ((passed move_to ps s).contents ≡ s.contents) × ((passed move_to ps s).sections ≡ s.sections)
moved_same [] s = (refl, refl, refl)
moved_same (p ∷ ps) s = moved_same ps (move_to p s)

no_line_end : (u : List ℕ) → bytes_eq u (codes "@") ≡ true → at_line_ends 1 u ≡ 0
no_line_end [] h = refl
no_line_end (b ∷ []) h = grind (arith, and_parts)
no_line_end (b ∷ c ∷ t) h = let wrong = (and_parts (b == 64) false h).1 in cc

-- An `@` that isn't doubled.
pub lone_at : (u : List ℕ) (ps : List Place) (s new : ScanState) → bytes_eq u (codes "@") ≡ true
    → new ≡ report DoubleAtInString s → PassesUnits (u ∷ []) ps ps s new
lone_at u ps s new h made = grind (arith, reading, append-nil, no_line_end)

-- Any other unit.
pub lines_passed : (u : List ℕ) (n : ℕ) (ps first left : List Place) (s new : ScanState)
    → bytes_eq u (codes "@") ≡ false → n ≡ at_line_ends 1 u → n ≤ length ps → first ≡ take n ps → left ≡ drop n ps
    → new ≡ passed move_to first s → PassesUnits (u ∷ []) ps left s new
lines_passed u n ps first left s new h count fits front back made =
    let size : at_line_ends 1 u ≡ length first = omega (
      arith,
      count,
      ap (λ (v : List Place). length v) front,
      length-take-le n ps fits,
    ) in
    let all : ps ≡ first ++ left = sym (take-append-drop n ps) ∙ (λ i. sym front i ++ sym back i) in
    let same = moved_same first s in record {
      state = λ later. ap (λ v. if v then on (report DoubleAtInString) (reading s (ps ++ later))
          else each_line_end move_to u (reading s (ps ++ later))) h
          ∙ ap (λ (v : List Place). each_line_end move_to u (reading s v))
          (ap (λ (v : List Place). v ++ later) all ∙ append_assoc first left later)
          ∙ each-passed move_to u first s (left ++ later) size
          ∙ ap (λ (v : ScanState). reading v (left ++ later)) (sym made);
      lines = omega (
        arith,
        ap (at_line_ends 1) (append-nil u),
        size,
        ap (λ (v : List Place). length v) all,
        length-append first left,
      );
      context = ap (λ (v : ScanState). v.context) made ∙ same.0;
      contents = ap (λ (v : ScanState). v.contents) made ∙ same.1;
      sections = ap (λ (v : ScanState). v.sections) made ∙ same.2;
    }

-- The newlines of its opener, its units and its closer.
pub quoted_lines : (k : ℕ) (item : Item) (t : List ℕ) (r : Reached) (n : ℕ)
    → r ≡ reached (reach (look_of item) Open (drop k t)) → at_line_ends 1 (take (quoted_as k item t).size t) ≡ n
    → at_line_ends 1 (take k t) + (at_line_ends 1 (body (reach (look_of item) Open (drop k t)))
    + at_line_ends 1 (take r.close (drop (k + r.size) t))) ≡ n
quoted_lines k item t r n is lines =
    let look = look_of item in
    let o = reach look Open (drop k t) in
    let close = take r.close (drop (k + r.size) t) in
    let same : take k t ∷ o.units ++ close ∷ [] ≡ all_units k (reach look Cut (drop k t)) t =
    ap (λ (v : Reached). take k t ∷ o.units ++ take v.close (drop (k + v.size) t) ∷ []) is
    ∙ ap (λ (v : Reach). all_units k v t) (sym (reach-at_end item Cut (drop k t))) in
    omega (
      arith,
      lines,
      ap (λ (v : List (List ℕ)). at_line_ends 1 (flat_map (λ u. u) v)) same,
      ap (at_line_ends 1) (quoted-bytes look (item-some item) k t),
      ends-append (take k t) (flat_map (λ u. u) (o.units ++ close ∷ [])),
      ap (at_line_ends 1) (flat_map-append (λ u. u) o.units (close ∷ [])),
      ends-append (body o) (flat_map (λ u. u) (close ∷ [])),
      ap (at_line_ends 1) (append-nil close),
    )

pub quoted_text : (first close : List ℕ) (us : List (List ℕ))
    → (unit_bytes first ++ unescaped us) ++ unit_bytes close ≡ unescaped (first ∷ us ++ close ∷ [])
quoted_text first close us = grind (arith, append_assoc, flat_map-append, append-nil)

-- A literal as the code takes it.
quoted_applies : (k : ℕ) (item : Item) (t : List ℕ) (ps left : List Place) (r : Reached) (x : List ℕ)
    (s mid new : ScanState) → r ≡ reached (reach (look_of item) Open (drop k t))
    → at_line_ends 1 (take (quoted_as k item t).size t) ≡ length ps
    → PassesUnits (take k t ∷ (reach (look_of item) Open (drop k t)).units ++ take r.close (drop (k + r.size) t) ∷ [])
    ps left s mid
    → x ≡ unescaped (take k t ∷ (reach (look_of item) Open (drop k t)).units ++ take r.close (drop (k + r.size) t) ∷ [])
    → new ≡ emit_literal x (ended_as Cut r.how) s.here mid
    → AppliesOver (quoted_as k item t) t ps (k + (r.size + r.close)) s new
quoted_applies k item t ps left r x s mid new is lines passes text made =
    grind (arith, reach-at_end, quoted-bytes, item-some, no_place_left, size-at_end, reading, how-at_end)

pub quoted_taken : (k : ℕ) (item : Item) (t : List ℕ) (ps left : List Place) (r : Reached) (x : List ℕ)
    (s mid new : ScanState) (first inner close : List ℕ) → first ≡ take k t → inner ≡ drop k t
    → close ≡ take r.close (drop (k + r.size) t) → r ≡ reached (reach (look_of item) Open inner)
    → at_line_ends 1 (take (quoted_as k item t).size t) ≡ length ps
    → PassesUnits (first ∷ (reach (look_of item) Open inner).units ++ close ∷ []) ps left s mid
    → x ≡ (unit_bytes first ++ unescaped (reach (look_of item) Open inner).units) ++ unit_bytes close
    → new ≡ emit_literal x (ended_as Cut r.how) s.here mid
    → AppliesOver (quoted_as k item t) t ps (k + (r.size + r.close)) s new
quoted_taken k item t ps left r x s mid new first inner close front back closes is lines passes text made =
    let look = look_of item in
    let units : first ∷ (reach look Open inner).units ++ close ∷ []
    ≡ take k t ∷ (reach look Open (drop k t)).units ++ take r.close (drop (k + r.size) t) ∷ [] =
    (λ i. front i ∷ (reach look Open (back i)).units ++ closes i ∷ []) in
    quoted_applies k item t ps left r x s mid new (is ∙ ap (λ (v : List ℕ). reached (reach look Open v)) back) lines
    (subst (λ (v : List (List ℕ)). PassesUnits v ps left s mid) units passes)
    (text ∙ quoted_text first close (reach look Open inner).units ∙ ap unescaped units) made
