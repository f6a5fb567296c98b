-- The log after a stop, the failure counts that rise, and the consequences of a run's promises for its endings.
use Rattle.cweb_tools.proofs.Common.{◌≡◌, inl, inr, ℕ, List, [], ◌∷◌, ◌++◌, refl, ap, arith, subst, IsTrue, Some, None, Stop, Usage, WebNotOpened, ChangeNotOpened, ReadFault, LineTooLong, TooMuchText, Memory, OutNotOpened, WriteFault, LogFault, Devices, SinkModel, Act, says, prints, reads, merges, after_act, ending, Breaks, LogsStop, PerformsActs, RunEnds, completes, stops, DoesActs, acts_status, IsStopped, IsEnded, ActsKeepLimits, RanFreely, ◌+◌, sym, ◌∙◌, add-zero, append_assoc, flat_map-append, flat_map, read_failures_of, bins_blame, stop_line, LogItem, line, Logs, logged, log_failed, written, Ending, logged_items}
use Rattle.cweb_tools.proofs.Leaving.{files_all, log_all, printed_all}
use Rattle.cweb_tools.proofs.Limits.{beyond}
use Rattle.cweb_tools.specs.Acts.{ActKeepsLimits}
use Rattle.cweb_tools.specs.Headline.{needs_memory}
use Rattle.cweb_files.proofs.Appending.{fails_in, fails_then, written_then}
use Rattle.cweb_tools.proofs.Doing.{counts_all}
use Rattle.cweb_tools.proofs.Broken.{broken, shelf_counted}

-- A text was logged before.
logs_on : (a : List ℕ) {b : List ℕ} {old mid new : SinkModel} → mid ≡ written a old → Logs b mid new
    → Logs (a ++ b) old new
logs_on a {b} {old} first (logged is) = logged (written_then a b old first is)
logs_on a first (log_failed fails) = log_failed (fails_then a first fails)

-- A log that didn't fail has the whole text.
pub logs_all : {text : List ℕ} {old new : SinkModel} → Logs text old new → new.failed ≡ old.failed
    → new ≡ written text old
logs_all (logged is) same = is
logs_all (log_failed fails) same = absurd (omega (arith, ap (λ (stream : SinkModel). stream.failed) fails.is, same))

-- The act within which something stopped the run.
pub record HaltsWithin (acts : List Act) (why : Ending) (old mid : Devices) : Type 0 where
  pub done : List Act
  pub later : List Act
  pub act : Act
  pub from : Devices
  pub whole : acts ≡ done ++ act ∷ later
  pub runs : PerformsActs done None old from
  pub breaks : Breaks act why from mid

pub halts_within : (acts : List Act) (why : Ending) (old mid : Devices) → PerformsActs acts (Some why) old mid
    → HaltsWithin acts why old mid
halts_within [] why old mid run = absurd run
halts_within (act ∷ acts) why old mid (inl run) =
    let rest = halts_within acts why (after_act act old) mid run.1 in record {
      done = act ∷ rest.done;
      later = rest.later;
      act = rest.act;
      from = rest.from;
      whole = ap (λ (all : List Act). act ∷ all) rest.whole;
      runs = inl (run.0, rest.runs);
      breaks = rest.breaks;
    }
halts_within (act ∷ acts) why old mid (inr here) =
    record { done = []; later = acts; act = act; from = old; whole = refl; runs = refl; breaks = here }

-- The line of that stop was logged, or the log failed within that line or within the act's own.
stopped_at : (act : Act) (stop : Stop) (about : List ℕ) (old mid new : Devices) → Breaks act (ending stop about) old mid
    → LogsStop (ending stop about) mid new → (acts : List Act) → IsStopped (act ∷ acts) stop about old new
stopped_at (says item) LogFault about old mid new fails logs acts =
    let is : new ≡ record old { log = new.log } = grind arith in
    record {
      log = record {
        before = item ∷ [];
        later = logged_items acts;
        whole = refl;
        logs = log_failed (rw logs.log (fails_in [] (fails_in [] fails.log)));
      };
      shelf = ap (λ (d : Devices). d.shelf.failed) is ∙ sym (add-zero old.shelf.failed);
      bins = ap (λ (d : Devices). d.out.failed) is ∙ sym (add-zero old.out.failed);
      log_fails = λ _. ap (λ (stream : SinkModel). stream.failed) (logs.log ∙ fails.log.is);
    }
stopped_at (reads names events) LogFault about old mid new broke logs acts = absurd broke.fails
stopped_at (merges names events) LogFault about old mid new broke logs acts = absurd broke.fails
stopped_at act LogFault about old mid new broke logs acts = absurd broke
stopped_at act stop about old mid new broke logs acts = grind (arith, broken, shelf_counted)

logged-append : (xs ys : List Act) → logged_items (xs ++ ys) ≡ logged_items xs ++ logged_items ys
logged-append [] ys = refl
logged-append (says item ∷ xs) ys = ap (λ (items : List LogItem). item ∷ items) (logged-append xs ys)
logged-append (act ∷ xs) ys = logged-append xs ys

pub is_stopped : (acts : List Act) {stop : Stop} {about : List ℕ} {old : Devices} (mid : Devices) {new : Devices}
    → PerformsActs acts (Some (ending stop about)) old mid
    → LogsStop (ending stop about) mid new → IsStopped acts stop about old new
is_stopped acts {stop} {about} {old} mid {new} run logs =
    let halts = halts_within acts (ending stop about) old mid run in
    let counts = counts_all halts.done old halts.from halts.runs in
    let last = stopped_at halts.act stop about halts.from mid new halts.breaks logs halts.later in
    let items : List LogItem = logged_items halts.done in
    record {
      log = record {
        before = items ++ last.log.before;
        later = last.log.later;
        whole = grind (arith, logged-append, append_assoc);
        logs = grind (arith, flat_map-append, append_assoc, logs_on, log_all);
      };
      shelf = last.shelf ∙ ap (λ (n : ℕ). n + read_failures_of stop) counts.0;
      bins = last.bins ∙ ap (λ (n : ℕ). n + bins_blame stop) counts.1;
      log_fails = λ fault. last.log_fails fault ∙ ap (λ (n : ℕ). n + 1) counts.2;
    }

-- If memory ran out, the log has the lines of the acts before that and the stop's line, unless it failed.
pub runs_out : (acts : List Act) (about : List ℕ) {old : Devices} (mid : Devices) {new : Devices}
    (halts : HaltsWithin acts (ending Memory about) old mid) → LogsStop (ending Memory about) mid new
    → new.log.failed ≡ old.log.failed
    → new.log ≡ written (flat_map line (logged_items halts.done) ++ stop_line Memory []) old.log
runs_out acts about {old} mid {new} halts logs same =
    let never : Memory ≡ LogFault → ⊥ = λ is. cc in
    let last = broken halts.act Memory about halts.from mid halts.breaks in
    logs_all (logs_on (flat_map line (logged_items halts.done)) (log_all halts.done old halts.from halts.runs)
    (subst (λ (log : SinkModel). Logs (stop_line Memory []) log new.log) (last.log never) logs.log)) same

pub limits_all : (acts : List Act) (old new : Devices) → PerformsActs acts None old new → ActsKeepLimits acts
limits_all [] old new is = tt
limits_all (act ∷ acts) old new (inl run) = (run.0, limits_all acts (after_act act old) new run.1)
limits_all (act ∷ acts) old new (inr stop) = absurd stop

pub does_all : {acts : List Act} {old new : Devices} {status : ℕ}
    → PerformsActs acts None old new → status ≡ acts_status acts → DoesActs acts old new status
does_all {acts} {old} {new} run answered = record {
  files = files_all acts old new run;
  printed = λ none. printed_all acts old new none run;
  logged = ap (λ (log : SinkModel). log.contents) (log_all acts old new run);
  answered = answered;
}

pub ends_so : {acts : List Act} {old new : Devices} {status : ℕ}
    → RunEnds acts (acts_status acts) old new status → IsEnded acts old new status
ends_so (completes run answered) = inl (does_all run answered)
ends_so {acts} {old} {new} (stops (ending stop about) then run logs answered) =
    inr (stop, about, is_stopped acts then run logs, answered)

-- The stops of devices and of memory.
abbrev IsOfDevices : Stop → Type 0
IsOfDevices (LineTooLong file) = ⊥
IsOfDevices TooMuchText = ⊥
IsOfDevices Usage = ⊥
IsOfDevices WebNotOpened = ⊥
IsOfDevices ChangeNotOpened = ⊥
IsOfDevices stop = Unit {0}

-- Within the limits there is no other stop.
cause_of : (act : Act) (stop : Stop) (about : List ℕ) (old new : Devices) → Breaks act (ending stop about) old new
    → ActKeepsLimits act → IsOfDevices stop
cause_of act (ReadFault file) about old new broke within = tt
cause_of act Memory about old new broke within = tt
cause_of act OutNotOpened about old new broke within = tt
cause_of act WriteFault about old new broke within = tt
cause_of act LogFault about old new broke within = tt
cause_of (reads names events) (LineTooLong file) about old new broke within =
    beyond (LineTooLong file) broke.whole broke.fails.1 within
cause_of (reads names events) TooMuchText about old new broke within =
    beyond TooMuchText broke.whole broke.fails.0 within
cause_of (merges names events) (LineTooLong file) about old new broke within =
    beyond (LineTooLong file) broke.whole broke.fails.1 within
cause_of (merges names events) TooMuchText about old new broke within =
    beyond TooMuchText broke.whole broke.fails.0 within
cause_of (reads names events) stop about old new broke within = absurd broke.fails
cause_of (merges names events) stop about old new broke within = absurd broke.fails
cause_of act stop about old new broke within = absurd broke

kept_at : (done : List Act) (act : Act) (later : List Act) → ActsKeepLimits (done ++ act ∷ later) → ActKeepsLimits act
kept_at [] act later within = within.0
kept_at (other ∷ done) act later within = kept_at done act later within.1

-- An act within which memory can run out needs memory.
needs : (act : Act) (about : List ℕ) (old new : Devices) → Breaks act (ending Memory about) old new
    → IsTrue (needs_memory act)
needs (says item) about old new broke = absurd broke
needs (prints text) about old new broke = absurd broke
needs act about old new broke = refl

-- A run that something stopped did not run freely.
not_free : {acts : List Act} (stop : Stop) {about : List ℕ} {old new : Devices} → (stop ≡ Memory → ⊥)
    → IsOfDevices stop → IsStopped acts stop about old new → RanFreely acts old new → ⊥
not_free (ReadFault file) never cause is free = absurd (omega (arith, is.shelf, free.shelf))
not_free OutNotOpened never cause is free = absurd (omega (arith, is.bins, free.out))
not_free WriteFault never cause is free = absurd (omega (arith, is.bins, free.out))
not_free LogFault never cause is free = absurd (omega (arith, is.log_fails refl, free.log))
not_free Memory never cause is free = never refl
not_free stop never cause is free = absurd cause

stop_is_free : {acts : List Act} (stop : Stop) (about : List ℕ) (old mid : Devices) {new : Devices}
    → PerformsActs acts (Some (ending stop about)) old mid → LogsStop (ending stop about) mid new
    → RanFreely acts old new → ⊥
stop_is_free {acts} Memory about old mid run logs free =
    let halts = halts_within acts (ending Memory about) old mid run in
    free.memory halts.done halts.later halts.act halts.whole (needs halts.act about halts.from mid halts.breaks)
    (ap (λ (log : SinkModel). log.contents) (runs_out acts about mid halts logs free.log))
stop_is_free {acts} stop about old mid run logs free =
    let halts = halts_within acts (ending stop about) old mid run in
    not_free stop (λ is. cc) (cause_of halts.act stop about halts.from mid halts.breaks
    (kept_at halts.done halts.act halts.later (subst ActsKeepLimits halts.whole free.within)))
    (is_stopped acts mid run logs) free

pub runs_freely : {acts : List Act} {expected : ℕ} {old new : Devices} {status : ℕ}
    → RunEnds acts expected old new status → RanFreely acts old new → PerformsActs acts None old new ×
    (status ≡ expected)
runs_freely (completes run answered) free = (run, answered)
runs_freely {old = old} (stops (ending stop about) then run logs answered) free = grind (arith, stop_is_free)

pub ends_within : {acts : List Act} {expected : ℕ} {old new : Devices} {status : ℕ}
    → RunEnds acts expected old new status → ¬ ActsKeepLimits acts → status ≡ 1
ends_within {acts} {old = old} {new = new} (completes run answered) beyond = grind (arith, beyond, limits_all)
ends_within (stops why then run logs answered) beyond = answered
