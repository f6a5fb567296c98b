-- The model and invariant of a stack under push and pop.
use Rattle.cweb_out.proofs.Common.{◌≡◌, ◌≤◌, ◌+◌, ◌-◌, ℕ, [], ◌∷◌, ◌++◌, List, length, sym, ◌∙◌, ap, arith, append_assoc, append-nil, length-append, sum_by, sum_by-cons, Token, Stored, names, expand, Frame, suffix, left_at_depth, work_of, list_work, IsFrameStack, UsesLower, Advances, left, level, name_work, token_work}
use Rattle.cweb_out.proofs.Owners.{OnTop, AreOwned-pop, AreOwned-push}

pub left_of-push : (w : Stored) (k : ℕ) (fs : List Frame) (f : Frame)
    → left_at_depth w k (fs ++ f ∷ []) ≡ expand w (k - length fs) (suffix w f) ++ left_at_depth w k fs
left_of-push w k [] f = let n : k - 0 ≡ k = omega arith in rw n (sym (append-nil _))
left_of-push w k (g ∷ fs) f = grind (arith, append_assoc, left_of-push w (k - 1) fs f)

pub work_of-push : (w : Stored) (k : ℕ) (fs : List Frame) (f : Frame)
    → work_of w k (fs ++ f ∷ []) ≡ list_work w (k - length fs) (suffix w f) + work_of w k fs
work_of-push w k [] f = let n : k - 0 ≡ k = omega arith in rw n (omega arith)
work_of-push w k (g ∷ fs) f = grind (arith, work_of-push w (k - 1) fs f)

pub Valid-pop : {w : Stored} {all fs : List Frame} {f : Frame} {room : ℕ} → all ≡ fs ++ f ∷ []
    → IsFrameStack w all room → IsFrameStack w fs room × OnTop w (names w + 1) fs f
Valid-pop {w} {fs} {f} e s = grind (arith, AreOwned-pop)

pub Valid-push : {w : Stored} {all fs : List Frame} {f : Frame} {room : ℕ} → all ≡ fs ++ f ∷ [] → room ≡ names w + 1
    → OnTop w (names w + 1) fs f → IsFrameStack w all room
Valid-push {w} {fs} e r o = grind (arith, AreOwned-push)

pub level-push : (w : Stored) (fs : List Frame) (f : Frame) → level w (fs ++ f ∷ []) ≡ names w - length fs
level-push w fs f = let l = length-append fs (f ∷ []) in omega arith

list_work-first : (w : Stored) (k : ℕ) (t : Token) (ts : List Token)
    → list_work w k (t ∷ ts) ≡ token_work w (name_work w k) t + list_work w k ts
list_work-first w k t ts =
    let f : Token → ℕ = token_work w (name_work w k) in
    let e : sum_by f (t ∷ ts) ≡ f t + sum_by f ts = sum_by-cons f t ts in omega (arith, e)

pub advances : {w : Stored} {old : List Frame} (fs : List Frame) {new : List Frame} (f g : Frame) {t : Token}
    → left w old ≡ left w (fs ++ f ∷ [])
    → work_of w (names w) (fs ++ f ∷ []) ≤ work_of w (names w) old → suffix w f ≡ t ∷ suffix w g
    → UsesLower w new t → new ≡ fs ++ g ∷ [] → Advances w old new t
advances {w} fs {new} f g {t} e m s u is =
    let k = names w - length fs in
    let l : names w - length fs ≡ level w new = sym (ap (level w) is ∙ level-push w fs g) in
    let p = work_of-push w (names w) fs f in
    let q : work_of w (names w) new ≡ list_work w k (suffix w g) + work_of w (names w) fs =
    grind (arith, work_of-push) in
    let v : list_work w k (suffix w f) ≡ token_work w (name_work w k) t + list_work w k (suffix w g) =
    ap (list_work w k) s ∙ list_work-first w k t (suffix w g) in
    let x : token_work w (name_work w k) t ≡ token_work w (name_work w (level w new)) t = grind arith in
    record {
      left = grind (arith, left_of-push, append_assoc);
      lower = u;
      work = omega (arith, p, q, v, x, m);
      some = omega (arith, ap length is, length-append fs (g ∷ []));
    }

-- A frame that has ended.
pub left-ended : (w : Stored) (fs : List Frame) (f : Frame) → suffix w f ≡ [] → left w (fs ++ f ∷ []) ≡ left w fs
left-ended w fs f e = left_of-push w (names w) fs f ∙ ap (λ ts. expand w (names w - length fs) ts ++ left w fs) e

pub work-ended : (w : Stored) (fs : List Frame) (f : Frame)
    → work_of w (names w) fs ≤ work_of w (names w) (fs ++ f ∷ [])
work-ended w fs f = let p = work_of-push w (names w) fs f in omega arith
