-- The model of a stack after a use of a name, and after one that expands to nothing.
use Rattle.cweb_out.proofs.Common.{true, ends_below, list_all, ◌≡◌, ◌+◌, ◌-◌, ℕ, suc, [], ◌∷◌, ◌++◌, List, length, refl, sym, ◌∙◌, ap, arith, Some, false, All, NameId, NameRef, Part, Name, all_tokens, Stored, names, uses, resolved_use, joined, expand, expanded_name, put, root_list, Frame, suffix, tokens_of_parts, work_of, list_work, PartIsWithin, FrameIsWithin, IsFrameStack, UsesLower, Enters, left, level, name_work, token_work}
use Rattle.cweb_out.proofs.Owners.{OnTop-entered, OnTop-first, room-above}
use Rattle.cweb_out.proofs.Stack.{left_of-push, work_of-push, Valid-push}

-- A frame was pushed.
pub record Entered (w : Stored) (fs new : List Frame) (r : NameRef) (more : ℕ) : Type 0 where
  pub valid : IsFrameStack w new more
  pub enters : Enters w fs new r

pub entered : {w : Stored} {fs new : List Frame} {r : NameRef}
    (m : NameId) {room more : ℕ} (q : Part) (rest : List Part)
    → IsFrameStack w fs room → more ≡ room → UsesLower w fs (Name r)
    → resolved_use w r ≡ Some m → tokens_of_parts w (q ∷ rest) ≡ joined w m
    → All (PartIsWithin (length (all_tokens w.parts))) (q ∷ rest)
    → new ≡ fs ++ record { owner = Some m; defs = false; part = q; rest = rest } ∷ [] → Entered w fs new r more
entered {w} {fs} {new} {r} m q rest s grows lower e text a is =
    let g : Frame = record { owner = Some m; defs = false; part = q; rest = rest } in
    let k : ℕ = names w - length fs in
    let deeper : level w fs ≡ suc k = omega (arith, room-above w fs r m s.owned lower e) in
    let within : FrameIsWithin w g = record { part = a 0 q (omega arith); rest = λ i x l. a (suc i) x (omega arith) } in
    let one : put w (expanded_name w (level w fs)) (Name r) ≡ expand w k (joined w m) = grind arith in
    let two : token_work w (name_work w (level w fs)) (Name r) ≡ 1 + list_work w k (joined w m) = grind arith in
    let three : work_of w (names w) new ≡ list_work w k (suffix w g) + work_of w (names w) fs =
    grind (arith, work_of-push) in
    let four : list_work w k (suffix w g) ≡ list_work w k (joined w m) = ap (list_work w k) text in
    record {
      valid = Valid-push is (grows ∙ s.room) (OnTop-entered r m s.owned lower e within refl (sym text));
      enters = record {
        left = grind (arith, left_of-push);
        work = omega (arith, two, three, four);
      };
    }

pub Valid-one : {w : Stored} {all : List Frame} {f : Frame} {room : ℕ} → all ≡ f ∷ []
    → FrameIsWithin w f → list_all (ends_below w (names w)) (uses w (suffix w f)) ≡ true → room ≡ names w + 1
    → suffix w f ≡ root_list w f.owner → IsFrameStack w all room
Valid-one e i b r l = Valid-push {fs = []} e r (OnTop-first (sym l) i (rw (← l) b))
