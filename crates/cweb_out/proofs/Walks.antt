-- The walk along a path that closes is its cycle.
use Rattle.cweb_out.proofs.Common.{◌≡◌, ◌≤◌, ◌<◌, ◌+◌, ℕ, zero, suc, Bool, true, false, cond, List, [], ◌∷◌, ◌++◌, refl, sym, ◌∙◌, ap, arith, length, inl, inr, append-nil, append_assoc, drop, take, subst, Some, get_or, list_any, position_or_len, length-map, take_more, NameId, is_id, Stored, names, joined, has_rank, first_endless, walk, cycle_from, AreNew, or_right, or_left, ◌⊎◌, Waiting}
use Rattle.cweb_out.specs.declared.outputs.search.Mark.{Mark}
use Rattle.cweb_out.specs.inner.Search.{PathBegins, Chain, MarksFitPath, IsEndless, IsScanned, back_to, path_next}
use Rattle.cweb_out.specs.inner.Search.{path_of, cycle_with_next}
use Rattle.cweb_out.proofs.Ranks.{few, id-same}
use Rattle.cweb_out.proofs.Circles.{chain-endless, looked-endless, next-on, next-some}
use Rattle.cweb_out.proofs.Paths.{path-push}
use Rattle.cweb_out.proofs.Waits.{top-name}

-- The walk along a path, and then back.
walks : (w : Stored) (seen : List NameId) (path : List Waiting) (again : NameId) (k : ℕ) → length path ≤ k
    → Chain w path (Some again) → AreNew seen (path_of path) → list_any (is_id again) (seen ++ path_of path) ≡ true
    → ((n : NameId) → (n ≡ again) ⊎ (list_any (is_id n) (path_of path) ≡ true) → has_rank w n ≡ false)
    → walk w (suc k) seen (path_next path (Some again))
    ≡ drop (position_or_len (is_id again) (seen ++ path_of path)) (seen ++ path_of path) ++ again ∷ []
walks w seen [] again k le c a h e = grind (arith, seen, append-nil, joined)
walks w seen (f ∷ path) again zero le c a h e = absurd (omega (arith, le))
walks w seen (f ∷ path) again (suc k) le c a h e =
    let s : (seen ++ f.name ∷ []) ++ path_of path ≡ seen ++ path_of (f ∷ path) = grind (arith, append_assoc) in
    let n = next-some path again in
    let endless = e n.0
    (elim (next-on path again n.0 n.1) [
      | inl g ↦ inl g
      | inr g ↦ inr (or_right (is_id n.0 f.name) (list_any (is_id n.0) (path_of path)) g)
    ]) in
    let first =
    (looked-endless n.0 (subst (IsScanned w (joined w f.name) f.text) n.1 c.0) endless).0 in
    let rest =
    walks w (seen ++ f.name ∷ []) path again k (omega (arith, le)) c.1 a.1 (ap (list_any (is_id again)) s ∙ h)
    (λ m o.
    e m
    (elim o
    [ inl g ↦ inl g | inr g ↦ inr (or_right (is_id m f.name) (list_any (is_id m) (path_of path)) g) ])) in
    goes (list_any (is_id f.name) seen) a.0 ∙ ap (walk w (suc k) (seen ++ f.name ∷ [])) (first ∙ sym n.1) ∙ rest
    ∙ ap (λ (ns : List NameId). drop (position_or_len (is_id again) ns) ns ++ again ∷ []) s
  where
    goes : (b : Bool) → b ≡ false
        → (elim b [
          | true ↦ drop (position_or_len (is_id f.name) seen) seen ++ f.name ∷ []
          | false ↦ walk w (suc k) (seen ++ f.name ∷ []) (first_endless w (joined w f.name))
        ])
        ≡ walk w (suc k) (seen ++ f.name ∷ []) (first_endless w (joined w f.name))
    goes true g = cc
    goes false g = refl

-- A path that closes is the cycle of its first name.
pub path-cycle : {w : Stored} {marks : List Mark} (path : List Waiting) {start : NameId} (again : NameId)
    → MarksFitPath w marks path → Chain w path (Some again) → list_any (is_id again) (path_of path) ≡ true
    → PathBegins w path start → IsEndless w start (back_to again path)
path-cycle [] again t c a b = cc
path-cycle {w} (f ∷ path) {start} again t c a b =
    let none = chain-endless w (f ∷ path) again c a in
    let on : list_any (is_id start) (path_of (f ∷ path)) ≡ true = grind (arith, or_left, id-same) in
    let size : length (path_of (f ∷ path)) ≡ length (f ∷ path) = length-map (f ∷ path) (λ (g : Waiting). g.name) in
    let le = few (names w) (path_of (f ∷ path)) t.new (λ n h. top-name n t h) in
    let fits : length (f ∷ path) ≤ names w = omega (arith, le, size) in
    let steps = walks w [] (f ∷ path) again (names w) fits c t.new a
    (λ n o. elim o [ inl e ↦ ap (has_rank w) e ∙ none (names w) again a | inr h ↦ none (names w) n h ]) in
    record { endless = λ k. none k start on; walk = sym (ap (λ n. cycle_from w (Some n)) (sym b) ∙ steps) }

-- A list from the first occurrence of a name on.
abbrev pub from_first : NameId → List NameId → List NameId
from_first n ns = drop (position_or_len (is_id n) ns) ns

pub from-cons : (n m : NameId) (ns : List NameId) → from_first n (m ∷ ns) ≡ cond (is_id n m) (m ∷ ns) (from_first n ns)
from-cons n m ns = grind (arith, is_id n m)

from-push : (n : NameId) (ns : List NameId) (m : NameId)
    → from_first n (ns ++ m ∷ []) ≡ cycle_with_next n (from_first n ns) m
from-push n [] m = from-cons n m []
from-push n (k ∷ ns) m = grind (arith, is_id n k, from-cons, from-push n ns m)

-- One more name of a path.
pub from-more : (n : NameId) (path : List Waiting) (i : ℕ) (f : Waiting) → i < length path → f ≡ get_or path i f
    → from_first n (path_of (take (i + 1) path)) ≡ cycle_with_next n (from_first n (path_of (take i path))) f.name
from-more n path i f l e =
    ap (λ (p : List Waiting). from_first n (path_of p)) (take_more path i f l ∙ ap (λ g. take i path ++ g ∷ []) (sym e))
    ∙ ap (from_first n) (path-push (take i path) f) ∙ from-push n (path_of (take i path)) f.name
