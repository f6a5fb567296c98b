-- The steps of the search, and its result for an output.
use Rattle.cweb_out.proofs.Common.{◌≡◌, ◌<◌, suc, Bool, true, false, not, List, [], ◌∷◌, ◌++◌, refl, sym, ◌∙◌, ap, arith, length, subst, Option, Some, None, Result, Ok, Err, find, list_all, set, NameId, Token, Stored, defs_first, root_list, has_defs_code, names, program, uses, has_rank, cycle_from, FrameIsWithin, suffix, Frame, Waiting}
use Rattle.std.specs.Prelude.{IfOk, option_map}
use Rattle.cweb_out.specs.declared.outputs.search.Mark.{Mark}
use Rattle.cweb_out.specs.declared.outputs.search.Mark.TheVariants.{Waits, Ranked}
use Rattle.cweb_out.specs.inner.Search.{Chain, MarksFitPath, Goes, IsEndless, Settles, SettlesList, Waited, IsScanned}
use Rattle.cweb_out.specs.inner.Search.{FindsUnranked, is_marked, mark_of, marks_left}
use Rattle.cweb_out.proofs.Ranks.{rank-grows, rank_by_uses}
use Rattle.cweb_out.proofs.Circles.{looked-endless}
use Rattle.cweb_out.proofs.ScannedUses.{looked-all, looked-more}
use Rattle.cweb_out.proofs.Paths.{begins-more, begins-pop, begins-push, chain-on, chain-pop, chain-push}
use Rattle.cweb_out.proofs.Waits.{fits-pop, fits-swap, left-less, on-top, top-name}

-- The last waiting name gets its rank.
pub goes-ranked : {w : Stored} {marks more : List Mark} {path : List Waiting} (f : Waiting) (text : Frame)
    → MarksFitPath w marks (path ++ f ∷ []) → Chain w (path ++ f ∷ []) None
    → list_all (is_marked marks) (uses w (suffix w f.text)) ≡ true
    → more ≡ set marks f.name.0 Ranked → Goes w marks (path ++ f ∷ []) more path None
goes-ranked {w} {marks} {path} f text t c a m =
    let l = top-name f.name t (on-top path f) in
    let pop = chain-pop path f c in
    let rank = rank_by_uses w f.name l (looked-all t pop.1 a) in
    let lt : f.name.0 < length marks = omega (arith, l, t.all) in
    let is : mark_of marks f.name ≡ Waits = t.marked f.name (on-top path f) in
    let one : marks_left Ranked < marks_left (mark_of marks f.name) = rw is (omega arith) in
    record {
      fits = rw m (fits-pop f t l rank);
      chain = chain-on w path f.name rank pop.0;
      begins = λ n b. begins-pop w path f n b rank;
      back = tt;
      less = λ e. rw m (left-less marks f.name Ranked lt one);
    }

-- The step meets a waiting name.
pub goes-back : {w : Stored} {marks : List Mark} (path : List Waiting) {after : List Waiting}
    (f g : Waiting) {n : NameId} → MarksFitPath w marks (path ++ f ∷ []) → Chain w (path ++ f ∷ []) None
    → g.name ≡ f.name → FrameIsWithin w g.text → FindsUnranked w marks (suffix w f.text) n (suffix w g.text)
    → after ≡ path ++ g ∷ [] → mark_of marks n ≡ Waits → Goes w marks (path ++ f ∷ []) marks after (Some n)
goes-back {w} {marks} path f g {n} t c e i m p is =
    let pop = chain-pop path f c in
    let fits : MarksFitPath w marks (path ++ g ∷ []) = fits-swap path f g e i t in
    let looked = looked-more t pop.1 m in
    let chain : Chain w (path ++ g ∷ []) (Some n) = chain-push path g (rw e pop.0) (rw e looked) in
    record {
      fits = subst (MarksFitPath w marks) (sym p) fits;
      chain = rw p chain;
      begins = λ k b. rw p (begins-push w path f g k e b);
      back = rw p (fits.waits n is);
      less = λ k. cc;
    }

-- The step meets a name that starts to wait.
pub goes-on : {w : Stored} {marks more : List Mark} (path : List Waiting) {mid after : List Waiting}
    (f g : Waiting) {n : NameId} → MarksFitPath w marks (path ++ f ∷ []) → Chain w (path ++ f ∷ []) None
    → g.name ≡ f.name → FrameIsWithin w g.text → FindsUnranked w marks (suffix w f.text) n (suffix w g.text)
    → mid ≡ path ++ g ∷ [] → Waited w marks mid n more after → Goes w marks (path ++ f ∷ []) more after None
goes-on path f g t c e i m p x = grind (arith, chain-pop, looked-more, chain-push, begins-more, begins-push)

-- The list of an output.
pub uses-defs : (w : Stored) (b : Bool) (ts : List Token) → uses w (defs_first b ++ ts) ≡ uses w ts
uses-defs w true ts = refl
uses-defs w false ts = refl

pub program-endless : {w : Stored} {frame : Frame} {n : NameId} {cycle : List NameId}
    → IsScanned w (root_list w None) frame (Some n) → IsEndless w n cycle → SettlesList w None (Some cycle)
program-endless {w} {n} l e =
    let same = uses-defs w (not (has_defs_code w.parts)) (program w) in
    let both = looked-endless n l (e.endless (names w)) in
    (both.1, e.walk ∙ ap (cycle_from w) (sym (ap (find (λ m. not (has_rank w m))) (sym same) ∙ both.0)))

pub settles-list : (w : Stored) (n : NameId) (cycle : Option (List NameId))
    → Settles w n cycle → SettlesList w (Some n) cycle
settles-list w n None s = rank-grows w (names w) n s
settles-list w n (Some cycle) s = (s.endless (suc (names w)), s.walk)

pub settled : {A E : Type 0} (w : Stored) (root : Option NameId)
    (n : NameId) (f : A → List NameId) (r : Result (Option A) E) → root ≡ Some n
    → IfOk r (λ c. Settles w n (option_map f c)) → IfOk r (λ c. SettlesList w root (option_map f c))
settled w root n f (Ok c) e h = rw e (settles-list w n (option_map f c) h)
settled w root n f (Err x) e h = h
