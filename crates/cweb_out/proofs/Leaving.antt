-- The top frame passes direct tokens, and then takes a use or ends.
use Rattle.cweb_out.proofs.Common.{◌≡◌, ◌≤◌, ◌<◌, ◌+◌, ◌-◌, ◌++◌, ◌∷◌, [], ℕ, List, length, refl, sym, ◌∙◌, ap, arith, subst, sum_by, set, length-set, get_or-set_same, set-set, take-set, sum_by-append, Token, Stored, names, expanded_name, put, Frame, suffix, left, level, work_of, list_work, name_work, token_work, FrameIsWithin, IsFrameStack, UsesLower, AreDirect}
use Rattle.cweb_out.proofs.TopAfterDirect.{top_passed}
use Rattle.cweb_out.proofs.Stack.{work_of-push}
use Rattle.cweb_out.proofs.Tops.{HasTop, lower, top_ended, TopMoved, top_moved, top_read, top_written}

-- A frame that was written is on top.
pub top_again : {n : ℕ} {fs : List Frame} {f g : Frame} → HasTop n fs f → HasTop n (set fs (n - 1) g) g
top_again {n} {fs} {g} h = grind (arith, length-set, get_or-set_same)

-- Less work remains for the suffix of the top frame.
work-passed : (w : Stored) {n : ℕ} {fs : List Frame} {f : Frame} (g : Frame) (ts : List Token) → HasTop n fs f
    → suffix w f ≡ ts ++ suffix w g → work_of w (names w) (set fs (n - 1) g) ≤ work_of w (names w) fs
work-passed w {n} {fs} {f} g ts h s =
    let below = lower n fs in
    let k = names w - length below in
    let step : Token → ℕ = token_work w (name_work w k) in
    let before : work_of w (names w) fs ≡ list_work w k (suffix w f) + work_of w (names w) below =
    ap (work_of w (names w)) (top_read h) ∙ work_of-push w (names w) below f in
    let after : work_of w (names w) (set fs (n - 1) g) ≡ list_work w k (suffix w g) + work_of w (names w) below =
    grind (arith, top_written, work_of-push) in
    let apart : sum_by step (suffix w f) ≡ sum_by step ts + sum_by step (suffix w g) = grind (arith, sum_by-append) in
    omega (arith, before, after, apart)

-- The top frame passed tokens and took a use.
pub record TopUsed (w : Stored) (fs new : List Frame) (ts : List Token) (t : Token) (room : ℕ) : Type 0 where
  pub valid : IsFrameStack w new room
  pub left : left w fs ≡ ts ++ (put w (expanded_name w (level w new)) t ++ left w new)
  pub lower : UsesLower w new t
  pub work : token_work w (name_work w (level w new)) t + work_of w (names w) new ≤ work_of w (names w) fs
  pub some : 0 < length new

pub top_used : {w : Stored} {n : ℕ} {fs : List Frame} {f g h : Frame} {ts : List Token} {t : Token} {room : ℕ}
    → IsFrameStack w fs room → HasTop n fs f → suffix w f ≡ ts ++ suffix w g → AreDirect ts → FrameIsWithin w g
    → g.owner ≡ f.owner
    → suffix w g ≡ t ∷ suffix w h → FrameIsWithin w h → h.owner ≡ g.owner → TopUsed w fs (set fs (n - 1) h) ts t room
top_used {w} {n} {fs} {f} {g} {h} {ts} {t} {room} valid top s direct within owner goes within' owner' =
    let mid = set fs (n - 1) g in
    let passed = top_passed valid top s direct within owner in
    let same : set mid (n - 1) h ≡ set fs (n - 1) h = set-set fs (n - 1) g h in
    let moved : TopMoved w mid (set fs (n - 1) h) t room = subst (λ (new : List Frame). TopMoved w mid new t room) same
    (top_moved passed.valid refl (omega arith) (top_again top) goes within' owner') in
    let less = work-passed w g ts top s in
    let more = moved.advances.work in
    record {
      valid = moved.valid;
      left = passed.left ∙ ap (λ (us : List Token). ts ++ us) moved.advances.left;
      lower = moved.advances.lower;
      work = omega (arith, less, more);
      some = moved.advances.some;
    }

-- The top frame passed tokens and ended.
pub record TopGone (w : Stored) (fs new : List Frame) (ts : List Token) (room : ℕ) : Type 0 where
  pub valid : IsFrameStack w new room
  pub left : left w fs ≡ ts ++ left w new
  pub work : work_of w (names w) new < work_of w (names w) fs

pub top_gone : {w : Stored} {n : ℕ} {fs new : List Frame} {f g : Frame} {ts : List Token} {room : ℕ}
    → IsFrameStack w fs room → HasTop n fs f → suffix w f ≡ ts ++ suffix w g → AreDirect ts → FrameIsWithin w g
    → g.owner ≡ f.owner → suffix w g ≡ [] → new ≡ lower n fs → TopGone w fs new ts room
top_gone {w} {n} {fs} {new} {f} {g} {ts} {room} valid top s direct within owner none is =
    let mid = set fs (n - 1) g in
    let passed = top_passed valid top s direct within owner in
    let same : lower n mid ≡ lower n fs = take-set fs (n - 1) g in
    let ended = top_ended passed.valid (top_again top) none (is ∙ sym same) in
    let below = lower n fs in
    let whole : work_of w (names w) fs ≡ list_work w (names w - length below) (suffix w f) + work_of w (names w) below =
    ap (work_of w (names w)) (top_read top)
    ∙ work_of-push w (names w) below f in
    let rest = ap (work_of w (names w)) is in
    record {
      valid = ended.valid;
      left = passed.left ∙ ap (λ (us : List Token). ts ++ us) ended.left;
      work = omega (arith, whole, rest);
    }
