-- The effect of consecutive calls on the devices, a file that is written, and the end of a run after calls.
use Rattle.cweb_tools.proofs.Common.{reads, ◌≡◌, inl, inr, ℕ, List, [], ◌∷◌, ◌++◌, refl, Option, Some, None, IsErr, Result, Ok, Err, Ending, ending, LogFault, SinkModel, Devices, FailedReads, Act, Breaks, PerformsActs, LogsStop, RunEnds, completes, stops, after_act, says, merges, Does, DoesInBoth, DoesInLog, log_ending, arith, ap, Stop, WriteFault, Memory, stop_line, Logs, changed, failing, with_file, without_file, writes, DoesInOut, plans, reserves, at, EndsInLog, codes, FailsWithin, written, prints}
use Rattle.cweb_tools.proofs.Broken.{log_until}
use Rattle.cweb_tools.specs.declared.rule_targets.Targets.TheVariants.{All}

-- The first acts were done, and then the others.
pub runs_on : (xs ys : List Act) (why : Option Ending) (old mid new : Devices)
    → PerformsActs xs None old mid → PerformsActs ys why mid new → PerformsActs (xs ++ ys) why old new
runs_on [] ys why old mid new first then = rw (← first) then
runs_on (act ∷ xs) ys why old mid new (inl first) then =
    inl (first.0, runs_on xs ys why (after_act act old) mid new first.1 then)
runs_on (act ∷ xs) ys why old mid new (inr stop) then = absurd stop

-- Something stopped the first acts.
pub stops_in : (xs ys : List Act) (why : Ending) (old new : Devices)
    → PerformsActs xs (Some why) old new → PerformsActs (xs ++ ys) (Some why) old new
stops_in [] ys why old new none = absurd none
stops_in (act ∷ xs) ys why old new (inl first) = inl (first.0, stops_in xs ys why (after_act act old) new first.1)
stops_in (act ∷ xs) ys why old new (inr stop) = inr stop

pub does_none : {seen : Devices} → Does [] None seen seen
does_none = record { runs = refl }

-- The first acts were done, and then the others.
pub does_on : {xs ys : List Act} {why : Option Ending} {before mid after : Devices}
    → Does xs None before mid → Does ys why mid after → Does (xs ++ ys) why before after
does_on {xs} {ys} {why} {before} {mid} {after} first then = grind (arith, runs_on)

-- Something stopped the first acts.
pub does_in : {xs : List Act} (ys : List Act) {why : Ending} {before after : Devices}
    → Does xs (Some why) before after → Does (xs ++ ys) (Some why) before after
does_in {xs} ys {why} {before} {after} first = record { runs = stops_in xs ys why before after first.runs }

-- The first acts were done, and the run ended in the others.
pub ends_on : {xs ys : List Act} {expected : ℕ} {before mid after : Devices} {status : ℕ}
    → Does xs None before mid → RunEnds ys expected mid after status → RunEnds (xs ++ ys) expected before after status
ends_on {xs} {ys} {before = before} {mid = mid} {after = after} first (completes run answered) = grind (arith, runs_on)
ends_on {xs} {ys} {before = before} {mid = mid} first (stops why then run logs answered) =
    stops why then (runs_on xs ys (Some why) before mid then first.runs run) logs answered

-- All acts were done.
pub ends_done : {acts : List Act} {expected : ℕ} {before after : Devices} {status : ℕ} → Does acts None before after
    → status ≡ expected → RunEnds acts expected before after status
ends_done does answered = completes does.runs answered

-- Something stopped the acts, and it was logged.
pub ends_halted : {acts : List Act} {expected : ℕ} {why : Ending} {before then after : Devices} {status : ℕ}
    → Does acts (Some why) before then → LogsStop why then after → status ≡ 1
    → RunEnds acts expected before after status
ends_halted {why = why} {then = then} does logs answered = stops why then does.runs logs answered

-- Acts that nothing stopped failed no device.
pub counts_all : (acts : List Act) (old new : Devices) → PerformsActs acts None old new
    → (new.shelf.failed ≡ old.shelf.failed) × (new.out.failed ≡ old.out.failed) × (new.log.failed ≡ old.log.failed)
counts_all [] old new is = grind arith
counts_all (act ∷ acts) old new (inr stop) = absurd stop
counts_all (says item ∷ acts) old new (inl run) = counts_all acts (after_act (says item) old) new run.1
counts_all (act ∷ acts) old new (inl run) = counts_all acts (after_act act old) new run.1

abbrev pub no_shelf : FailedReads
no_shelf = record { failed = 0; blamed = None }

pub bins_counted : {acts : List Act} {a b : SinkModel} {k l : SinkModel} → DoesInBoth acts None a b k l
    → b.failed ≡ a.failed
bins_counted {acts} does = (counts_all acts _ _ (does no_shelf).runs).1

pub logs_counted : {acts : List Act} {a b : SinkModel} {k l : SinkModel} → DoesInBoth acts None a b k l
    → l.failed ≡ k.failed
logs_counted {acts} does = (counts_all acts _ _ (does no_shelf).runs).2

pub log_counted : {acts : List Act} {old new : SinkModel} → DoesInLog acts None old new → new.failed ≡ old.failed
log_counted {acts} does = (counts_all acts _ _ (does no_shelf (record { failed = 0; contents = None })).runs).2

-- The log failed in the first acts.
pub log_fails : {E B F : Type 0} (e : E) (r : Result B F) {xs : List Act} (ys : List Act) {old new : SinkModel}
    → DoesInLog xs (log_ending {A = Unit {0}} (Err e)) old new → IsErr r → DoesInLog (xs ++ ys) (log_ending r) old new
log_fails e (Ok x) ys does is = absurd (cc)
log_fails e (Err f) ys does is = λ shelf out. does_in ys (does shelf out)

-- The name of a log fault doesn't matter.
break_about : (act : Act) (a b : List ℕ) (old new : Devices)
    → Breaks act (ending LogFault a) old new → Breaks act (ending LogFault b) old new
break_about (says item) a b old new broke = broke
break_about (reads names events) a b old new broke = absurd broke.fails
break_about (merges names events) a b old new broke = absurd broke.fails
break_about act a b old new broke = absurd broke

log_about : (acts : List Act) (a b : List ℕ) (old new : Devices)
    → PerformsActs acts (Some (ending LogFault a)) old new → PerformsActs acts (Some (ending LogFault b)) old new
log_about [] a b old new none = absurd none
log_about (act ∷ acts) a b old new (inl run) = inl (run.0, log_about acts a b (after_act act old) new run.1)
log_about (act ∷ acts) a b old new (inr broke) = inr (break_about act a b old new broke)

pub does_about : {acts : List Act} {a b : List ℕ} {before after : Devices}
    → Does acts (Some (ending LogFault a)) before after → Does acts (Some (ending LogFault b)) before after
does_about {acts} {a} {b} {before} {after} does = record { runs = log_about acts a b before after does.runs }

-- The output after a file is written, or not.
pub file_done : {name text : List ℕ} {a d : SinkModel} → d ≡ changed (with_file name text) a
    → DoesInOut (writes name text ∷ []) None a d
file_done is = λ shelf log. record { runs = inl (tt, ap (λ out. at shelf out log) is) }

pub not_written : {name text : List ℕ} {a d : SinkModel} → d ≡ failing (without_file None) a
    → DoesInOut (writes name text ∷ []) (Some (ending WriteFault name)) a d
not_written is = λ shelf log. record { runs = inr (refl, ap (λ out. at shelf out log) is) }

-- The log failed, which ends the run.
pub log_halts : {acts : List Act} {expected status : ℕ} {before after : Devices}
    → Does acts (Some (ending LogFault [])) before after → status ≡ 1 → RunEnds acts expected before after status
log_halts does one = ends_halted does (record { log = refl; others = refl }) one

-- A run that ends in a call that logs, whatever its result.
pub ends_reported : {A E : Type 0} (r : Result A E) {acts : List Act} {expected status : ℕ} {old new : SinkModel}
    → DoesInLog acts (log_ending r) old new → status ≡ expected → status ≡ 1 → EndsInLog acts expected old new status
ends_reported (Ok x) does is one = λ shelf out. ends_done (does shelf out) is
ends_reported (Err e) does is one = λ shelf out. log_halts (does shelf out) one

-- Acts without effect on the devices.
pub does_plan : {seen : Devices} → Does (plans ∷ []) None seen seen
does_plan = record { runs = inl (tt, refl) }

pub does_reserve : {seen : Devices} → Does (reserves ∷ []) None seen seen
does_reserve = record { runs = inl (tt, refl) }

-- An allocation failed within an act, and it was logged.
pub memory_halts : (act : Act) (acts : List Act) {expected status : ℕ} {shelf : FailedReads} {out : SinkModel}
    {old new : SinkModel} → Breaks act (ending Memory []) (at shelf out old) (at shelf out old)
    → Logs (stop_line Memory []) old new
    → status ≡ 1 → RunEnds (act ∷ acts) expected (at shelf out old) (at shelf out new) status
memory_halts act acts {shelf = shelf} {out = out} {old = old} breaks logs one = ends_halted {why = ending Memory []}
    {then = at shelf out old} (record { runs = inr breaks }) (record { log = logs; others = refl }) one

-- Only a log fault increases the log's failure count.
pub stop_counted : (stop : Stop) {about : List ℕ} → (stop ≡ LogFault → ⊥) → {acts : List Act} {a b : SinkModel}
    {k l : SinkModel} → DoesInBoth acts (Some (ending stop about)) a b k l → l.failed ≡ k.failed
stop_counted stop {about} never {acts} does = log_until acts stop about _ _ never (does no_shelf).runs

-- All bytes were written.
pub printed_whole : (text : List ℕ) (old : SinkModel) {new : SinkModel} → new ≡ written text old
    → DoesInOut (prints text ∷ []) None old new
printed_whole text old is = λ shelf log. record { runs = inl (tt, ap (λ out. at shelf out log) is) }

-- A prefix was written, and the output failed.
pub printed_prefix : {text : List ℕ} {old new : SinkModel} → FailsWithin text old new
    → DoesInOut (prints text ∷ []) (Some (ending WriteFault (codes "standard output"))) old new
printed_prefix fails = grind arith
