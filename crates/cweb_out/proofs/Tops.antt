-- The top frame of a stack, read and written in place. It is the last of the list.
use Rattle.cweb_out.proofs.Common.{◌≡◌, ◌<◌, ◌≤◌, ◌+◌, ◌-◌, ◌++◌, ◌∷◌, [], ℕ, List, length, take, get_or, sym, ◌∙◌, ap, arith, set, take-length, length-set, take_more, take_more_set, Token, Stored, names, Frame, suffix, left, work_of, FrameIsWithin, IsFrameStack, Advances, rank, top_rank}
use Rattle.cweb_out.proofs.Owners.{OnTop, OnTop-next, top_rank-push}
use Rattle.cweb_out.proofs.Stack.{Valid-pop, Valid-push, advances, left-ended, work-ended}

-- The frames below the top of a stack of n.
abbrev pub lower : ℕ → List Frame → List Frame
lower n fs = take (n - 1) fs

pub record HasTop (n : ℕ) (fs : List Frame) (f : Frame) : Type 0 where
  pub count : n ≡ length fs
  pub some : 0 < length fs
  pub is : f ≡ get_or fs (n - 1) f

pub top_read : {n : ℕ} {fs : List Frame} {f : Frame} → HasTop n fs f → fs ≡ lower n fs ++ f ∷ []
top_read {n} {fs} {f} h = grind (arith, take-length, take_more)

pub top_written : {n : ℕ} {fs : List Frame} {f : Frame} (g : Frame) → HasTop n fs f → set fs (n - 1) g
    ≡ lower n fs ++ g ∷ []
top_written {n} {fs} g h =
    let c = h.count in
    let some = h.some in
    let all : length (set fs (n - 1) g) ≡ n - 1 + 1 = omega (arith, length-set fs (n - 1) g) in
    let lt : n - 1 < length fs = omega arith in
    sym (take-length (set fs (n - 1) g)) ∙ ap (λ k. take k (set fs (n - 1) g)) all ∙ take_more_set fs (n - 1) g lt

-- A stack without its top, and the invariant of the top.
pub valid_lower : {w : Stored} {n : ℕ} {fs : List Frame} {f : Frame} {room : ℕ} → IsFrameStack w fs room
    → HasTop n fs f
    → IsFrameStack w (lower n fs) room × OnTop w (names w + 1) (lower n fs) f
valid_lower s h = Valid-pop (top_read h) s

-- The top frame advanced by a token.
pub record TopMoved (w : Stored) (old new : List Frame) (t : Token) (room : ℕ) : Type 0 where
  pub valid : IsFrameStack w new room
  pub advances : Advances w old new t

pub top_moved : {w : Stored} {n : ℕ} {old fs : List Frame} {f g : Frame} {t : Token} {room : ℕ}
    → IsFrameStack w fs room → left w old ≡ left w fs → work_of w (names w) fs ≤ work_of w (names w) old → HasTop n fs f
    → suffix w f ≡ t ∷ suffix w g → FrameIsWithin w g → g.owner ≡ f.owner → TopMoved w old (set fs (n - 1) g) t room
top_moved {w} {n} {old} {fs} {f} {g} {t} s e m h goes i o =
    let both : fs ≡ lower n fs ++ f ∷ [] = top_read h in
    let after : set fs (n - 1) g ≡ lower n fs ++ g ∷ [] = top_written g h in
    let p = valid_lower s h in
    let v = OnTop-next t goes i o p.1 in
    let top : top_rank w (names w + 1) (set fs (n - 1) g) ≡ rank w g.owner = grind (arith, top_rank-push) in
    record {
      valid = Valid-push after s.room v.0;
      advances = advances (lower n fs) f g (e ∙ ap (left w) both) (rw (← (ap (work_of w (names w)) both)) m)
          goes (rw top v.1) after;
    }

-- The top frame had ended.
pub record TopEnded (w : Stored) (fs new : List Frame) (room : ℕ) : Type 0 where
  pub valid : IsFrameStack w new room
  pub left : left w fs ≡ left w new
  pub work : work_of w (names w) new ≤ work_of w (names w) fs

pub top_ended : {w : Stored} {n : ℕ} {fs new : List Frame} {f : Frame} {room : ℕ} → IsFrameStack w fs room
    → HasTop n fs f → suffix w f ≡ [] → new ≡ lower n fs → TopEnded w fs new room
top_ended {w} {fs} {new} {f} {room} s h none is =
    let both : fs ≡ new ++ f ∷ [] = top_read h ∙ ap (λ (x : List Frame). x ++ f ∷ []) (sym is) in
    let same = ap (work_of w (names w)) both in
    let less = work-ended w new f in
    record {
      valid = rw is (valid_lower s h).0;
      left = ap (left w) both ∙ left-ended w new f none;
      work = omega arith;
    }
