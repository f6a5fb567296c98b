-- How a whole run ends, by the result of parsing its words.
use Rattle.cweb_tools.proofs.Common.{◌≡◌, ◌⊎◌, inl, inr, ℕ, List, [], ◌∷◌, ◌++◌, refl, sym, subst, Option, Some, None, World, Stop, Usage, Memory, LogFault, banner, stopped, stop_line, OptionsModel, Logs, SinkModel, Devices, FailedReads, Act, ending, judges, says, at, RunEnds, Does, DoesInLog, FollowsActs, TangleCourse, script, acts_status, unread, when, CanCome, opening_acts, tangle_later, EndsAs, shown_by, tangle_course, depend_acts, depend_web_acts}
use Rattle.cweb_tools.proofs.Doing.{does_in, does_on, ends_halted, ends_on, log_halts}
use Rattle.cweb_tools.proofs.Statuses.{banner_status}
use Rattle.cweb_tools.proofs.TangleExits.{reported_last, can_come}
use Rattle.cweb_tools.specs.declared.rule_targets.Targets.{Targets}

-- The acts of a run whose words can be read.
pub script_is : (args : OptionsModel) (course : TangleCourse) → CanCome (Some args) course
    → script args.shown course ≡ judges ∷ (when args.shown.banner banner
    ++ opening_acts (tangle_later args.shown) course)
script_is args unread can = absurd can
script_is args _ can = refl

-- The words were parsed.
pub judged : {seen : Devices} → Does (judges ∷ []) None seen seen
judged = record { runs = inl (tt, refl) }

-- A run that does these acts ends as its course does.
abbrev pub EndsRun : (TangleCourse → List Act) → World → Option OptionsModel → Devices → Devices → ℕ → Type 0
EndsRun acts world args before after status =
    FollowsActs acts (CanCome args) (λ taken. taken ≡ tangle_course world args) before after status

-- The acts begin with the parsing of the words.
abbrev pub Judges : List Act → Type 0
Judges acts = (rest : List Act) × (acts ≡ judges ∷ rest)

-- The course of a run is possible for its words.
pub can_run : (world : World) (args : Option OptionsModel) → CanCome args (tangle_course world args)
can_run world None = tt
can_run world (Some args) = can_come args world _ _

pub script_judges : (world : World) (args : Option OptionsModel) (one : OptionsModel) → args ≡ Some one
    → Judges (script (shown_by args) (tangle_course world (Some one)))
script_judges world args one is = subst (λ (args : Option OptionsModel). Judges
    (script (shown_by args) (tangle_course world (Some one)))) (sym is) (
      when one.shown.banner banner ++ opening_acts (tangle_later one.shown) (tangle_course world (Some one)),
      script_is one (tangle_course world (Some one)) (can_run world (Some one)),
    )

-- Memory ran out while the words were parsed.
pub memory_stops : {C : Type 0} (acts : C → List Act) {CanBe : C → Type 0} (course : C) → CanBe course
    → Judges (acts course) → (shelf : FailedReads) (out : SinkModel) {l l' : SinkModel} {status : ℕ}
    → Logs (stop_line Memory []) l l' → status ≡ 1
    → FollowsActs acts CanBe (λ taken. taken ≡ course) (at shelf out l) (at shelf out l') status
memory_stops acts course can begun shelf out {l} logs answered = record {
  course = course;
  can = can;
  is = λ tell. refl;
  ends = ends_halted (subst (λ (acts : List Act).
      Does acts (Some (ending Memory [])) (at shelf out l) (at shelf out l)) (sym begun.1) (record { runs = inr refl }))
      (record { log = logs; others = refl }) answered;
}

memory_is : {Args : Type 0} (args : Args) (stop : Stop) → (stop ≡ Usage) ⊎ (stop ≡ Memory)
    → (stop ≡ Usage → Some args ≡ None) → stop ≡ Memory
memory_is args stop (inl is) none_by = let none = none_by is in absurd (cc)
memory_is args stop (inr is) none_by = is

-- The words can't be read, or an allocation for their names failed. Runs of these arguments go as `course` says.
pub words_end : {C Args : Type 0} (usage : List ℕ) (acts : C → List Act) (CanBe : Option Args → C → Type 0)
    (course : Option Args → C) → ((args : Option Args) → CanBe args (course args))
    → acts (course None) ≡ says (stopped Usage usage) ∷ [] → (args : Option Args)
    → ((one : Args) → args ≡ Some one → Judges (acts (course (Some one)))) → (stop : Stop) (shelf : FailedReads)
    (out : SinkModel) {l l' : SinkModel} (status : ℕ) → (stop ≡ Usage) ⊎ (stop ≡ Memory)
    → (stop ≡ Usage → args ≡ None) → (args ≡ None → stop ≡ Usage) → Logs (stop_line stop usage) l l' → status ≡ 1
    → FollowsActs acts (CanBe args) (λ taken. taken ≡ course args) (at shelf out l) (at shelf out l') status
words_end usage acts CanBe course can unread_is None judged_by stop shelf out {l} {l'} status why none_by is_usage logs
    answered = record {
      course = course None;
      can = can None;
      is = λ tell. refl;
      ends = subst (λ (done : List Act). RunEnds done (acts_status done) (at shelf out l) (at shelf out l') status)
          (sym unread_is)
          (subst (λ (n : ℕ). RunEnds (says (stopped Usage usage) ∷ []) 1 (at shelf out l) (at shelf out l') n)
          (sym answered) (reported_last (stopped Usage usage) shelf out
          (subst (λ (s : Stop). Logs (stop_line s usage) l l') (is_usage refl) logs)));
    }
words_end usage acts CanBe course can unread_is (Some one) judged_by stop shelf out {l} {l'} status why none_by is_usage
    logs answered = memory_stops acts (course (Some one)) (can (Some one)) (judged_by one refl) shelf out
    (subst (λ (s : Stop). Logs (stop_line s usage) l l') (memory_is one stop why none_by) logs) answered

-- The banner could not be logged.
pub banner_ends : (world : World) (args : OptionsModel) (shelf : FailedReads) (out : SinkModel) {l l' : SinkModel}
    → DoesInLog (when args.shown.banner banner) (Some (ending LogFault [])) l l'
    → EndsRun (script args.shown) world (Some args) (at shelf out l) (at shelf out l') 1
banner_ends world args shelf out {l} {l'} does =
    let can = can_come args world _ _ in record {
      course = tangle_course world (Some args);
      can = can;
      is = λ tell. refl;
      ends = log_halts (rw (script_is args _ can) (does_on judged (does_in _ (does shelf out)))) refl;
    }

-- The run continued after the banner.
pub named_ends : (world : World) (args : OptionsModel) (shelf : FailedReads) (out : SinkModel) {l l' : SinkModel}
    (after : Devices) (status : ℕ) → DoesInLog (when args.shown.banner banner) None l l'
    → EndsAs (tangle_later args.shown) args (tangle_course world (Some args)) (at shelf out l') after status
    → EndsRun (script args.shown) world (Some args) (at shelf out l) after status
named_ends world args shelf out {l} after status does follows =
    let first = does_on (judged) (does shelf out) in
    record {
      course = follows.course;
      can = follows.can;
      is = follows.is;
      ends = rw (script_is args follows.course follows.can)
          (rw (banner_status args.shown (opening_acts (tangle_later args.shown) follows.course))
          (ends_on first follows.ends));
    }

-- The acts of a run whose words can be read.
depend_is : (targets : Targets) (args : OptionsModel) (course : TangleCourse) → CanCome (Some args) course
    → depend_acts targets course ≡ judges ∷ opening_acts (depend_web_acts targets) course
depend_is targets args unread can = absurd can
depend_is targets args _ can = refl

pub depend_judges : (targets : Targets) (world : World) (args : OptionsModel)
    → Judges (depend_acts targets (tangle_course world (Some args)))
depend_judges targets world args = (
  opening_acts (depend_web_acts targets) (tangle_course world (Some args)),
  depend_is targets args (tangle_course world (Some args)) (can_run world (Some args)),
)

-- The run continued after its words were parsed.
pub depend_ends : (targets : Targets) (world : World) (args : OptionsModel) (before after : Devices) (status : ℕ)
    → EndsAs (depend_web_acts targets) args (tangle_course world (Some args)) before after status
    → EndsRun (depend_acts targets) world (Some args) before after status
depend_ends targets world args before after status follows = record {
  course = follows.course;
  can = follows.can;
  is = follows.is;
  ends = rw (depend_is targets args follows.course follows.can) (ends_on judged follows.ends);
}
