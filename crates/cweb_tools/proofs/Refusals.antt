-- Plans and refusals.
use Rattle.cweb_tools.proofs.Common.{◌≡◌, ◌∙◌, ℕ, List, [], ◌∷◌, refl, ap, subst, flat_map, IfSome, Option, None, Some, Result, Ok, Err, Stored, Planned, Refusal, same_name, cycle, IsExpectedFault, PlanFault, Cycle, SameName, BadName, fault, line, plan_item, LogItem, SinkModel, Wrote, DoesInLog, log_ending, EndsInLog, plans, says, status_by, refusal_message, refused, plan_made, planning, planning_by, refusal_in, arith}
use Rattle.cweb_out.specs.Outputs as out
use Rattle.cweb_out.specs.declared.outputs.fault.PlanFault.TheVariants.{Memory}
use Rattle.cweb_tools.proofs.BufferedLog.{logs_by}
use Rattle.cweb_tools.specs.Depend.{depend_plan_acts}
use Rattle.cweb_tools.specs.declared.rule_targets.Targets.{Targets}
use Rattle.cweb_tools.proofs.Doing.{ends_on, ends_reported, does_plan, memory_halts}
use Rattle.cweb_tools.proofs.Logging.{said_all}

pub each_some : {A : Type 0} (o : Option A) (P : A → Type 0) → ((x : A) → o ≡ Some x → P x) → IfSome o P
each_some None P each = tt
each_some (Some x) P each = each x refl

pub of_some : {A : Type 0} (o : Option A) (x : A) (P : A → Type 0) → o ≡ Some x → IfSome o P → P x
of_some {A = A} o x P is holds = let whole : IfSome (Some x) P = subst (λ (o : Option A). IfSome o P) is holds in whole

-- The item of a fault that is a refusal.
refusal_item : (w : Stored) (main : List ℕ) (f : PlanFault) (r : Refusal)
    → refusal_in f ≡ Some r → plan_item w main f ≡ fault (refusal_message w main r)
refusal_item w main Memory r is = absurd (cc)
refusal_item w main f r is = grind arith

-- A refusal was logged.
pub refusal_said : {A E : Type 0} (result : Result A E) (w : Stored) (main : List ℕ) (f : PlanFault) (r : Refusal)
    (items : List LogItem) {old new : SinkModel} → refusal_in f ≡ Some r → items ≡ plan_item w main f ∷ []
    → Wrote (flat_map line items) old new result
    → DoesInLog (says (fault (refusal_message w main r)) ∷ []) (log_ending result) old new
refusal_said result w main f r items {old} {new} is are writes = said_all result (fault (refusal_message w main r)) []
    (subst (λ (items : List LogItem). Wrote (flat_map line items) old new result)
    (are ∙ ap (λ (item : LogItem). item ∷ []) (refusal_item w main f r is)) writes)

-- A fault other than a failed allocation is the expected refusal.
pub record IsRefused (w : Stored) (main : List ℕ) (f : PlanFault) : Type 0 where
  pub refusal : Refusal
  pub is_refusal : refusal_in f ≡ Some refusal
  pub expected : out.planned w main ≡ Err refusal

pub refused_by : {w : Stored} {main : List ℕ} (f : PlanFault)
    → IsExpectedFault (out.planned w main) f → (f ≡ Memory → ⊥) → IsRefused w main f
refused_by (Cycle names) expected never = record { refusal = cycle names.items; is_refusal = refl; expected = expected }
refused_by (SameName name) expected never = record { refusal = same_name name; is_refusal = refl; expected = expected }
refused_by (BadName output) expected never = grind arith
refused_by Memory expected never = absurd (never refl)

pub planning_made : (w : Stored) (files : List (List ℕ)) (main : List ℕ) (p : Planned)
    → out.planned w main ≡ Ok p → planning w files main ≡ plan_made w files p
planning_made w files main p is = ap (planning_by w files main) is

pub planning_refused : (w : Stored) (files : List (List ℕ)) (main : List ℕ) (r : Refusal)
    → out.planned w main ≡ Err r → planning w files main ≡ refused (refusal_message w main r)
planning_refused w files main r is = ap (planning_by w files main) is

-- A run of `wdep` whose outputs could not be planned.
refused_ends : {A E : Type 0} (r : Result A E) (w : Stored) (files : List (List ℕ)) (main : List ℕ) (targets : Targets)
    (count : ℕ) (f : PlanFault) {old new : SinkModel} → IsRefused w main f
    → Wrote (flat_map line (plan_item w main f ∷ [])) old new r
    → EndsInLog (plans ∷ depend_plan_acts targets files (planning w files main))
    (status_by count (planning w files main)) old new 1
refused_ends r w files main targets count f why writes = λ shelf out. ends_on does_plan
    (rw (planning_refused w files main why.refusal why.expected)
    (ends_reported r (refusal_said r w main f why.refusal _ why.is_refusal refl writes) refl refl shelf out))

pub unplanned_ends : {A E : Type 0} (r : Result A E) (w : Stored) (files : List (List ℕ)) (main : List ℕ)
    (targets : Targets) (count : ℕ) (f : PlanFault) {old new : SinkModel} → IsExpectedFault (out.planned w main) f
    → Wrote (flat_map line (plan_item w main f ∷ [])) old new r
    → EndsInLog (plans ∷ depend_plan_acts targets files (planning w files main))
    (status_by count (planning w files main)) old new 1
unplanned_ends r w files main targets count Memory expected writes = λ shelf out.
    memory_halts plans _ refl (logs_by r _ _ _ writes) refl
unplanned_ends r w files main targets count f expected writes =
    refused_ends r w files main targets count f (refused_by f expected (λ is. cc)) writes
