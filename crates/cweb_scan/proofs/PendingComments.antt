-- Comments, as one slice of the source.
use Rattle.cweb_scan.proofs.Common.{◌≡◌, ℕ, ◌+◌, Bool, true, List, [], ◌∷◌, length, take, drop, refl, ap, sym, ◌∙◌, codes, Place, begins, at_line_ends, Look, look_in_comment, reach, reach_size, comment_match, Comment, End, Cut, Open, Reached, reached, is_unclosed, opens_in, Context, Limbo, TeX, Definition, match_in, comment_line_end, pass_comment, blank, on, enter_in, ScanState, AppliesOver, passed, ended_as, reads_c, with_line, arith}
use Rattle.cweb_rules.specs.declared.items.Item.TheVariants as item
use Rattle.cweb_rules.specs.inner.LineItems.{opens_comment, goes_on}
use Rattle.cweb_rules.proofs.Looks.{comment-units}
use Rattle.cweb_rules.proofs.LineComments.{comment_local}
use Rattle.cweb_rules.proofs.OverLineEnds.{goes_on_is}
use Rattle.cweb_rules.proofs.Sizes.{begins-size}
use Rattle.cweb_scan.proofs.Ends.{size-at_end, how-at_end}
use Rattle.cweb_scan.proofs.OpeningSteps.{two}
use Rattle.cweb_scan.proofs.CrossedLineEnds.{CrossesNewline, crosses}
use Rattle.cweb_scan.proofs.PendingItems.{IsNext, each-passed, over, over_ended}
use Rattle.cweb_scan.proofs.TakenItems.{reading}

abbrev look : List ℕ → Look
look t = look_in_comment (begins (codes "*/")) 2 t

comment_crosses : CrossesNewline look
comment_crosses = grind (arith, crosses, comment-units, comment_local)

-- As the code sees it.
pub comment_goes_on : (t : List ℕ) → goes_on look t ≡ is_unclosed (reach look Open t).how
comment_goes_on t = goes_on_is look t (comment-units (begins (codes "*/")) 2) (comment_local (10 ∷ []) refl) refl

-- The comment as the code takes it.
pub comment_applies : (t : List ℕ) (ps : List Place) (r : Reached) (s new : ScanState)
    → r ≡ reached (reach look Open (drop 2 t)) → at_line_ends 1 (take (comment_match t).size t) ≡ length ps
    → new ≡ pass_comment (ended_as Cut r.how) s.here (passed comment_line_end ps (blank s))
    → AppliesOver (comment_match t) t ps (2 + (r.size + r.close)) s new
comment_applies t ps r s new is lines made =
    let f = comment_match t in
    record {
      size = ap (λ n. 2 + n) (size-at_end item.Comment Cut (drop 2 t) r is);
      state = λ later.
          ap (on (pass_comment (reach look Cut (drop 2 t)).how s.here))
          (each-passed comment_line_end (take f.size t) ps (blank s) later lines)
          ∙ ap (λ (e : End). reading (pass_comment e s.here (passed comment_line_end ps (blank s))) later)
          (sym (how-at_end item.Comment Cut (drop 2 t) r is))
          ∙ ap (λ (v : ScanState). reading v later) (sym made);
    }

-- `/*` begins a comment wherever C text is read.
seen : (c : Context) (includes : Bool) (w : List ℕ) → reads_c c ≡ true
    → (match_in c includes (47 ∷ 42 ∷ w) ≡ comment_match (47 ∷ 42 ∷ w))
    × (opens_in c (47 ∷ 42 ∷ w) ≡ opens_comment (47 ∷ 42 ∷ w))
seen Limbo includes w h = cc
seen TeX includes w h = cc
seen (Definition begun) includes w h = grind arith
seen _ includes w h = (refl, refl)

enter_comment : (c : Context) (how : End) (s : ScanState) → enter_in c (Comment how) s ≡ s
enter_comment Limbo how s = refl
enter_comment _ how s = refl

pub is_comment : (s : ScanState) (u : List ℕ) → reads_c s.context ≡ true → begins (codes "/*") u ≡ true
    → IsNext s u (comment_match u) (opens_comment u)
is_comment s u c h = grind (arith, two, seen, enter_comment)

pub comment_over : (w line : List ℕ) → begins (codes "/*") w ≡ true → opens_comment w ≡ true
    → (opens_comment (with_line w line) ≡ goes_on look line)
    × ((comment_match (with_line w line)).size ≡ length w + 1 + reach_size (reach look Cut line))
comment_over w line sign h = over look comment_crosses 2 w line (begins-size (codes "/*") w sign) h

pub comment_ended : (w : List ℕ) → begins (codes "/*") w ≡ true → opens_comment w ≡ true
    → (comment_match w).size ≡ length w
comment_ended w sign h = over_ended look comment_crosses 2 w (begins-size (codes "/*") w sign) h
