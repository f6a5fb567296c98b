-- The top frame of a stack passes direct tokens.
use Rattle.cweb_out.proofs.Common.{◌≡◌, ◌-◌, ◌++◌, ◌∷◌, [], ℕ, List, length, sym, ◌∙◌, ap, append_assoc, set, Token, Stored, names, expand, expanded_name, Frame, suffix, left, FrameIsWithin, IsFrameStack, AreDirect, arith}
use Rattle.cweb_out.proofs.Owners.{OnTop}
use Rattle.cweb_out.proofs.DirectExpansion.{put-all-direct}
use Rattle.cweb_out.proofs.Stack.{Valid-push, left_of-push}
use Rattle.cweb_out.proofs.Tops.{HasTop, lower, valid_lower, top_read, top_written}

OnTop-passed : {w : Stored} {above : ℕ} {fs : List Frame} {f g : Frame} (ts : List Token)
    → suffix w f ≡ ts ++ suffix w g → FrameIsWithin w g → g.owner ≡ f.owner → OnTop w above fs f → OnTop w above fs g
OnTop-passed {w} {above} {fs} {g} ts s i o h = record {
  below = h.below;
  owned = record {
    within = i;
    yielded = h.owned.yielded ++ ts;
    list = grind (arith, append_assoc);
    ends = rw o h.owned.ends;
  };
  lower = rw o h.lower;
}

-- The top frame passed tokens.
pub record TopPassed (w : Stored) (fs new : List Frame) (ts : List Token) (room : ℕ) : Type 0 where
  pub valid : IsFrameStack w new room
  pub left : left w fs ≡ ts ++ left w new

pub top_passed : {w : Stored} {n : ℕ} {fs : List Frame} {f g : Frame} {ts : List Token} {room : ℕ}
    → IsFrameStack w fs room → HasTop n fs f → suffix w f ≡ ts ++ suffix w g → AreDirect ts
    → FrameIsWithin w g → g.owner ≡ f.owner → TopPassed w fs (set fs (n - 1) g) ts room
top_passed {w} {n} {fs} {f} {g} {ts} {room} s h goes direct i o =
    let below : List Frame = lower n fs in
    let both : fs ≡ below ++ f ∷ [] = top_read h in
    let after : set fs (n - 1) g ≡ below ++ g ∷ [] = top_written g h in
    let p = valid_lower s h in
    let k : ℕ = names w - length below in
    record {
      valid = Valid-push after s.room (OnTop-passed ts goes i o p.1);
      left =
          ap (left w) both ∙ left_of-push w (names w) below f
          ∙ ap (λ (us : List Token). expand w k us ++ left w below) goes
          ∙ ap (λ (us : List Token). us ++ left w below) (put-all-direct w (expanded_name w k) ts (suffix w g) direct)
          ∙ append_assoc ts (expand w k (suffix w g)) (left w below)
          ∙ ap (λ (us : List Token). ts ++ us) (sym (ap (left w) after ∙ left_of-push w (names w) below g));
    }
