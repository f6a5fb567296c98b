-- Names on a cycle have no rank.
use Rattle.cweb_out.proofs.Common.{◌≡◌, ℕ, zero, suc, Bool, true, false, not, cond, ◌&&◌, List, [], ◌∷◌, ◌++◌, refl, sym, ◌∙◌, ap, inl, inr, subst, Some, find, list_all, list_any, NameId, is_id, Token, Stored, joined, uses, ends_below, has_rank, first_endless, suffix, Frame, and_parts, or_cases, or_left, or_right, ◌⊎◌, Waiting, arith}
use Rattle.cweb_out.specs.inner.Search.{Chain, IsScanned, path_next, path_of}
use Rattle.cweb_out.proofs.Ranks.{id-same}
use Rattle.cweb_out.proofs.Paths.{is-same}

-- Each name of a path uses one of the path. The last one uses the first.
abbrev UsesOne : Stored → List NameId → NameId → Type 0
UsesOne w path n = (m : NameId) × (before : List NameId) ×
    (rest : List NameId) × (uses w (joined w n) ≡ before ++ (m ∷ rest)) × (list_any (is_id m) path ≡ true)

pub next-on : (path : List Waiting) (again : NameId) (n : NameId)
    → path_next path (Some again) ≡ Some n → (n ≡ again) ⊎ (list_any (is_id n) (path_of path) ≡ true)
next-on [] again n h = let e : again ≡ n = cc in inl (sym e)
next-on (f ∷ path) again n h = grind (arith, or_left, id-same)

pub next-some : (path : List Waiting) (again : NameId) → (n : NameId) × (path_next path (Some again) ≡ Some n)
next-some [] again = (again, refl)
next-some (f ∷ path) again = (f.name, refl)

looked-next : {w : Stored} (whole : List NameId) (path : List Waiting) (f : Waiting) (again : NameId)
    → IsScanned w (joined w f.name) f.text (path_next path (Some again)) → list_any (is_id again) whole ≡ true →
    ((m : NameId) → list_any (is_id m) (path_of path) ≡ true → list_any (is_id m) whole ≡ true) → UsesOne w whole f.name
looked-next {w} whole path f again l a sub = grind (arith, next-some, next-on)

chain-uses : (w : Stored) (whole : List NameId) (path : List Waiting) (again n : NameId)
    → Chain w path (Some again) → list_any (is_id again) whole ≡ true
    → ((m : NameId) → list_any (is_id m) (path_of path) ≡ true → list_any (is_id m) whole ≡ true)
    → list_any (is_id n) (path_of path) ≡ true → UsesOne w whole n
chain-uses w whole [] again n c a sub h = cc
chain-uses w whole (f ∷ path) again n c a sub h =
    let later : (m : NameId) → list_any (is_id m) (path_of path) ≡ true → list_any (is_id m) whole ≡ true =
    grind (arith, or_right) in
    elim (or_cases (is_id n f.name) (list_any (is_id n) (path_of path)) h) [
      | inl e ↦ subst (UsesOne w whole) (sym (is-same n f.name e)) (looked-next whole path f again c.0 a later)
      | inr e ↦ chain-uses w whole path again n c.1 a later e
    ]

-- A use without a rank below k.
all-fails : (p : NameId → Bool) (before rest : List NameId) (m : NameId)
    → p m ≡ false → list_all p (before ++ (m ∷ rest)) ≡ false
all-fails p [] rest m h = ap (λ b. b && list_all p rest) h
all-fails p (x ∷ before) rest m h = grind (arith, all-fails p before rest m h)

circle : (w : Stored) (whole : List NameId) → ((n : NameId) → list_any (is_id n) whole ≡ true → UsesOne w whole n)
    → (k : ℕ) (n : NameId) → list_any (is_id n) whole ≡ true → ends_below w k n ≡ false
circle w whole next zero n h = refl
circle w whole next (suc k) n h =
    let u = next n h in
    ap (list_all (ends_below w k)) u.3 ∙ all-fails (ends_below w k) u.1 u.2 u.0 (circle w whole next k u.0 u.4)

pub chain-endless : (w : Stored) (path : List Waiting) (again : NameId)
    → Chain w path (Some again) → list_any (is_id again) (path_of path) ≡ true
    → (k : ℕ) (n : NameId) → list_any (is_id n) (path_of path) ≡ true → ends_below w k n ≡ false
chain-endless w path again c a k n h =
    circle w (path_of path) (λ m g. chain-uses w (path_of path) path again m c a (λ i j. j) g) k n h

find-first : (p : NameId → Bool) (before rest : List NameId) (n : NameId) → list_all p before ≡ true
    → p n ≡ false → find (λ m. not (p m)) (before ++ (n ∷ rest)) ≡ Some n
find-first p [] rest n a h = ap (λ b. cond (not b) (Some n) (find (λ m. not (p m)) rest)) h
find-first p (x ∷ before) rest n a h =
    grind (arith, and_parts, find-first p before rest n (and_parts (p x) (list_all p before) a).1 h)

pub looked-endless : {w : Stored} {list : List Token} {frame : Frame} (n : NameId) → IsScanned w list frame (Some n)
    → has_rank w n ≡ false → (first_endless w list ≡ Some n) × (list_all (has_rank w) (uses w list) ≡ false)
looked-endless {w} {frame} n l h = (
  ap (find (λ m. not (has_rank w m))) l.same ∙ find-first (has_rank w) l.before (uses w (suffix w frame)) n l.ranked h,
  ap (list_all (has_rank w)) l.same ∙ all-fails (has_rank w) l.before (uses w (suffix w frame)) n h,
)
