-- The owners of frames: the ranks of their lists, and the prefixes that were taken.
use Rattle.cweb_out.proofs.Common.{◌≡◌, ◌≤◌, ◌<◌, ◌+◌, ◌-◌, ℕ, zero, suc, Bool, true, false, List, [], ◌∷◌, ◌++◌, refl, sym, ◌∙◌, ap, arith, append_assoc, subst, Option, Some, None, list_all, NameId, NameRef, Token, Name, Stored, names, use_of, uses, resolved_use, joined, ends_below, least, list_ends, name_rank, root_list, Frame, FrameIsWithin, suffix, length, rank, top_rank, AreOwned, IsOwned, UsesLower, and_parts}
use Rattle.cweb_out.proofs.Ranks.{all-parts, grows-more}

least-le : (test : ℕ → Bool) (n k : ℕ) → test k ≡ true → least test n ≤ k
least-le test zero k h = omega arith
least-le test (suc n) k h = by (test zero) refl k h (λ j e. least-le (λ i. test (suc i)) n j e)
  where
    by : (b : Bool) → test zero ≡ b → (k : ℕ) → test k ≡ true → ((j : ℕ) → test (suc j) ≡ true
        → least (λ i. test (suc i)) n ≤ j) → (elim b [ true ↦ zero | false ↦ suc (least (λ i. test (suc i)) n) ]) ≤ k
    by true e k h later = omega arith
    by false e zero h later = cc
    by false e (suc k) h later = let le = later k h in omega (arith, le)

least-holds : (test : ℕ → Bool) (n : ℕ) → test n ≡ true → test (least test n) ≡ true
least-holds test zero h = h
least-holds test (suc n) h = grind (arith, test zero, least-holds (λ i. test (suc i)) n h)

-- A rank is below each number that bounds it.
rank-below : (w : Stored) (k : ℕ) (n : NameId) → ends_below w k n ≡ true → name_rank w n < k
rank-below w zero n h = cc
rank-below w (suc k) n h = let le = least-le (λ j. ends_below w (suc j) n) (names w) k h in omega (arith, le)

-- The names that a list uses have ranks below that of its owner.
owner-below : (w : Stored) (o : Option NameId) → list_ends w (root_list w o) ≡ true
    → list_all (ends_below w (rank w o)) (uses w (root_list w o)) ≡ true
owner-below w None h = h
owner-below w (Some n) h = least-holds (λ k. ends_below w (suc k) n) (names w) h

-- Each frame leaves less room for ranks.
pub top-lower : (w : Stored) (above : ℕ) (fs : List Frame) → AreOwned w above fs
    → top_rank w above fs + length fs ≤ above
top-lower w above [] h = omega arith
top-lower w above (f ∷ fs) h = omega (arith, h.1, top-lower w (rank w f.owner) fs h.2)

used-below : (w : Stored) (fs : List Frame) (r : NameRef) (m : NameId) → UsesLower w fs (Name r)
    → resolved_use w r ≡ Some m → ends_below w (top_rank w (names w + 1) fs) m ≡ true
used-below w fs r m lower e = grind (arith, and_parts)

-- A name that the top frame's list uses has room on the stack.
pub room-above : (w : Stored) (fs : List Frame) (r : NameRef) (m : NameId) → AreOwned w (names w + 1) fs
    → UsesLower w fs (Name r) → resolved_use w r ≡ Some m → length fs < names w + 1
room-above w fs r m below lower e = grind (arith, rank-below, used-below, top-lower)

-- A frame that may be pushed onto others.
pub record OnTop (w : Stored) (above : ℕ) (fs : List Frame) (f : Frame) : Type 0 where
  pub below : AreOwned w above fs
  pub owned : IsOwned w f
  pub lower : rank w f.owner < top_rank w above fs

pub top_rank-push : (w : Stored) (above : ℕ) (fs : List Frame) (f : Frame)
    → top_rank w above (fs ++ f ∷ []) ≡ rank w f.owner
top_rank-push w above [] f = refl
top_rank-push w above (g ∷ fs) f = top_rank-push w (rank w g.owner) fs f

pub AreOwned-push : {w : Stored} (above : ℕ) (fs : List Frame) {f : Frame} → OnTop w above fs f
    → AreOwned w above (fs ++ f ∷ [])
AreOwned-push above [] t = (t.owned, t.lower, tt)
AreOwned-push {w} above (g ∷ fs) t =
    grind (arith, AreOwned-push (rank w g.owner) fs (record { below = t.below.2; owned = t.owned; lower = t.lower }))

pub AreOwned-pop : {w : Stored} (above : ℕ) (fs : List Frame) {f : Frame} → AreOwned w above (fs ++ f ∷ [])
    → OnTop w above fs f
AreOwned-pop above [] h = record { below = tt; owned = h.0; lower = h.1 }
AreOwned-pop {w} above (g ∷ fs) h = grind (arith, AreOwned-pop (rank w g.owner) fs h.2)

uses-append : (w : Stored) (xs ys : List Token) → uses w (xs ++ ys) ≡ uses w xs ++ uses w ys
uses-append w [] ys = refl
uses-append w (x ∷ xs) ys = grind (arith, append_assoc, uses-append w xs ys)

-- A token of the list was taken.
pub OnTop-next : {w : Stored} {above : ℕ} {fs : List Frame} {f g : Frame} (t : Token) → suffix w f ≡ t ∷ suffix w g
    → FrameIsWithin w g → g.owner ≡ f.owner → OnTop w above fs f
    → OnTop w above fs g × list_all (ends_below w (rank w g.owner)) (use_of w t) ≡ true
OnTop-next {w} {above} {fs} {g} t s i o h =
    let list : root_list w g.owner ≡ h.owned.yielded ++ (t ∷ suffix w g) = grind arith in
    let ends : list_ends w (root_list w g.owner) ≡ true = grind arith in
    let test : NameId → Bool = ends_below w (rank w g.owner) in
    let split : list_all test (uses w h.owned.yielded ++ (use_of w t ++ uses w (suffix w g))) ≡ true =
    ap (list_all test) (sym (ap (uses w) list ∙ uses-append w h.owned.yielded (t ∷ suffix w g)))
    ∙ owner-below w g.owner ends in (
      record {
        below = h.below;
        owned = record {
          within = i;
          yielded = h.owned.yielded ++ t ∷ [];
          list = list ∙ sym (append_assoc h.owned.yielded (t ∷ []) (suffix w g));
          ends = ends;
        };
        lower = rw o h.lower;
      },
      (all-parts test (use_of w t) (uses w (suffix w g))
          (all-parts test (uses w h.owned.yielded) (use_of w t ++ uses w (suffix w g)) split).1).0,
    )

-- The first frame.
pub OnTop-first : {w : Stored} {f : Frame} → root_list w f.owner ≡ suffix w f → FrameIsWithin w f
    → list_all (ends_below w (names w)) (uses w (root_list w f.owner)) ≡ true → OnTop w (names w + 1) [] f
OnTop-first {w} {f} l i b =
    record { below = tt; owned = record { within = i; yielded = []; list = l; ends = b }; lower = within f.owner b }
  where
    within : (o : Option NameId) → list_all (ends_below w (names w)) (uses w (root_list w o)) ≡ true
        → rank w o < names w + 1
    within None h = omega arith
    within (Some n) h = let le = least-le (λ k. ends_below w (suc k) n) (names w) (names w) h in omega (arith, le)

-- The frame of a name that the top frame's list uses.
pub OnTop-entered : {w : Stored} {fs : List Frame} {g : Frame} (r : NameRef) (m : NameId)
    → AreOwned w (names w + 1) fs → UsesLower w fs (Name r) → resolved_use w r ≡ Some m → FrameIsWithin w g
    → g.owner ≡ Some m → joined w m ≡ suffix w g → OnTop w (names w + 1) fs g
OnTop-entered {w} {fs} r m below lower e i o text =
    let top : ℕ = top_rank w (names w + 1) fs in
    let used = used-below w fs r m lower e in
    let deep : suc (names w) ≡ (suc (names w) - top) + top = omega (arith, top-lower w (names w + 1) fs below) in
    record {
      below = below;
      owned = record {
        within = i;
        yielded = [];
        list = ap (root_list w) o ∙ text;
        ends = ap (λ (p : Option NameId). list_ends w (root_list w p)) o ∙ ap (λ j. ends_below w j m) deep
            ∙ grows-more w (suc (names w) - top) top m used;
      };
      lower = subst (λ (p : Option NameId). rank w p < top) (sym o) (rank-below w top m used);
    }
