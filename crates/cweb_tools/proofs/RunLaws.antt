-- The laws of runs.
use Rattle.cweb_tools.proofs.Common.{◌≡◌, ◌+◌, ◌≤◌, ◌⊎◌, inl, inr, ℕ, List, [], ◌∷◌, refl, sym, ◌∙◌, ap, arith, Option, Some, None, World, read_failures_of, Stop, ReadFault, OutNotOpened, WriteFault, OptionsModel, Devices, SinkModel, Logs, logged, log_failed, Act, judges, merges, writes, prints, after_act, ending, PerformsActs, RunEnds, completes, stops, FollowsActs, IsStopped, bins_blame, last_refusal, script, shown_by, FailsOnce, ReportsFaults, RisesOnce, TanglePromises, LeavesDevices}
use Rattle.cweb_files.specs.declared.bins.BinFault.{BinFault}
use Rattle.cweb_tools.specs.laws.RunEffects.{LeavesShelf}
use Rattle.cweb_tools.proofs.Broken.{broken, shelf_after}
use Rattle.cweb_tools.proofs.ChangedFilesWereRead.{ends_read, read_if_changed}
use Rattle.cweb_tools.proofs.Doing.{counts_all}
use Rattle.cweb_tools.proofs.Endings.{ends_so, ends_within, is_stopped, logs_all}
use Rattle.cweb_tools.proofs.Leaving.{ends_draft, ends_files}

-- A count that a stop increases by at most one.
blamed_once : (old new n : ℕ) → new ≡ old + n → (n ≡ 0) ⊎ (n ≡ 1) → RisesOnce old new
blamed_once old new n is (inl none) = inl (omega (arith, is, none))
blamed_once old new n is (inr one) = inr (omega (arith, is, one))

read_once : (stop : Stop) → (read_failures_of stop ≡ 0) ⊎ (read_failures_of stop ≡ 1)
read_once (ReadFault file) = inr refl
read_once stop = inl refl

bins_once : (stop : Stop) → (bins_blame stop ≡ 0) ⊎ (bins_blame stop ≡ 1)
bins_once OutNotOpened = inr refl
bins_once WriteFault = inr refl
bins_once stop = inl refl

log_once : {text : List ℕ} {old new : SinkModel} → Logs text old new → RisesOnce old.failed new.failed
log_once (logged is) = inl (ap (λ (log : SinkModel). log.failed) is)
log_once (log_failed fails) = inr (ap (λ (log : SinkModel). log.failed) fails.is)

one_blame : (stop : Stop) → read_failures_of stop + bins_blame stop ≤ 1
one_blame (ReadFault file) = omega arith
one_blame OutNotOpened = omega arith
one_blame WriteFault = omega arith
one_blame stop = omega arith

-- No device failed twice.
pub fail_once : {acts : List Act} {expected : ℕ} {old new : Devices} {status : ℕ}
    → RunEnds acts expected old new status → FailsOnce old new
fail_once {acts} {old = old} {new = new} (completes run answered) = grind (arith, counts_all, inl)
fail_once {acts} {old = old} {new = new} (stops (ending stop about) then run logs answered) =
    let is = is_stopped acts then run logs in
    record {
      shelf = blamed_once old.shelf.failed new.shelf.failed (read_failures_of stop) is.shelf (read_once stop);
      out = blamed_once old.out.failed new.out.failed (bins_blame stop) is.bins (bins_once stop);
      log = log_once is.log.logs;
      one = omega (arith, is.shelf, is.bins, one_blame stop);
    }

pub faults_show : {acts : List Act} {expected : ℕ} {old new : Devices} {status : ℕ}
    → RunEnds acts expected old new status → ReportsFaults old new status
faults_show {acts} {old = old} {new = new} (completes run answered) = grind (arith, counts_all)
faults_show (stops why then run logs answered) = grind arith

-- A refusal after acts that nothing stopped was there before.
refused_all : (acts : List Act) (old new : Devices) (why : BinFault) → PerformsActs acts None old new
    → last_refusal new.out ≡ Some why → last_refusal old.out ≡ Some why
refused_all [] old new why is refused = sym (ap (λ (d : Devices). last_refusal d.out) is) ∙ refused
refused_all (act ∷ acts) old new why (inr stop) refused = absurd stop
refused_all (writes name text ∷ acts) old new why (inl run) refused =
    grind (arith, refused_all acts (after_act (writes name text) old) new why run.1 refused)
refused_all (merges names events ∷ acts) old new why (inl run) refused =
    grind (arith, refused_all acts (after_act (merges names events) old) new why run.1 refused)
refused_all (prints text ∷ acts) old new why (inl run) refused =
    grind (arith, refused_all acts (after_act (prints text) old) new why run.1 refused)
refused_all (act ∷ acts) old new why (inl run) refused =
    refused_all acts (after_act act old) new why run.1 refused

refused_so : {acts : List Act} {expected : ℕ} {old new : Devices} {status : ℕ} (why : BinFault)
    → RunEnds acts expected old new status → last_refusal new.out ≡ Some why
    → (last_refusal old.out ≡ Some why) ⊎ (status ≡ 1)
refused_so {acts} {old = old} {new = new} why (completes run answered) refused = grind (arith, refused_all)
refused_so why (stops stop mid run logs answered) refused = inr answered

pub leave_devices : (world : World) (args : Option OptionsModel) (before after : Devices) (status : ℕ)
    → (run : TanglePromises world args before after status)
    → LeavesDevices (script (shown_by args) run.course) before after status
leave_devices world args before after status run = record {
  ended = ends_so run.ends;
  filed = ends_files run.ends;
  draft = λ none. ends_draft none run.ends;
  read = read_if_changed (ends_read (shown_by args) run.course run.ends);
  refused = λ why. refused_so why run.ends;
  limits = ends_within run.ends;
  once = fail_once run.ends;
  faults = faults_show run.ends;
}

-- The shelf after acts that nothing stopped, and after a stop.
shelf_all : (acts : List Act) (old new : Devices) → PerformsActs acts None old new → new.shelf ≡ old.shelf
shelf_all [] old new is = ap (λ (d : Devices). d.shelf) is
shelf_all (judges ∷ acts) old new (inl run) = shelf_all acts old new run.1
shelf_all (act ∷ acts) old new (inl run) = shelf_all acts (after_act act old) new run.1
shelf_all (act ∷ acts) old new (inr stop) = absurd stop

shelf_until : (acts : List Act) (stop : Stop) (about : List ℕ) (old new : Devices)
    → PerformsActs acts (Some (ending stop about)) old new → new.shelf ≡ shelf_after stop about old.shelf
shelf_until [] stop about old new none = absurd none
shelf_until (judges ∷ acts) stop about old new (inl run) = shelf_until acts stop about old new run.1
shelf_until (act ∷ acts) stop about old new (inl run) = shelf_until acts stop about (after_act act old) new run.1
shelf_until (act ∷ acts) stop about old new (inr here) = (broken act stop about old new here).shelf

shelf_so : {acts : List Act} (stop : Stop) (about : List ℕ) {old new : Devices} {status : ℕ}
    → IsStopped acts stop about old new → new.shelf ≡ shelf_after stop about old.shelf → status ≡ 1
    → LeavesShelf old.shelf new.shelf old.log new.log status
shelf_so (ReadFault file) about is blamed answered = grind (arith, logs_all)
shelf_so stop about is same answered = grind arith

ends_shelf : {acts : List Act} {expected : ℕ} {old new : Devices} {status : ℕ} → RunEnds acts expected old new status
    → LeavesShelf old.shelf new.shelf old.log new.log status
ends_shelf {acts} {old = old} {new = new} (completes run answered) = grind (arith, shelf_all)
ends_shelf {acts} {old = old} (stops (ending stop about) mid run logs answered) = shelf_so stop about
    (is_stopped acts mid run logs)
    (ap (λ (d : Devices). d.shelf) logs.others ∙ shelf_until acts stop about old mid run) answered

pub leave_shelf : {C : Type 0} {acts : C → List Act} {CanBe Is : C → Type 0} {before after : Devices} {status : ℕ}
    → FollowsActs acts CanBe Is before after status
    → LeavesShelf before.shelf after.shelf before.log after.log status
leave_shelf run = ends_shelf run.ends
