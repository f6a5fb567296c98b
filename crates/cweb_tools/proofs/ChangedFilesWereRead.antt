-- A run that changed the bins has read everything.
use Rattle.cweb_tools.proofs.Common.{◌≡◌, ◌≢◌, ◌⊎◌, inl, inr, ℕ, ◌+◌, Bool, false, List, [], ◌∷◌, ◌++◌, ap, Some, Stop, ReadFault, LogItem, banner, fault_count, Shown, Devices, SinkModel, Act, says, opens, reads, merges, writes, prints, after_act, ending, Breaks, PerformsActs, RunEnds, completes, stops, when, TangleCourse, unread, not_there, change_not_there, tangling, script, web_acts, planned_acts, closing_acts, Planning, refused, planned, Web, ActsKeepLimits, HasReadAll, arith}
use Rattle.cweb_tools.proofs.Broken.{broken}
use Rattle.cweb_tools.proofs.WebActs.{Any, when_on, said_on, starred_on, outputs_on, closing_on, warning_on}
use Rattle.cweb_tools.proofs.Doing.{counts_all}
use Rattle.cweb_tools.proofs.Endings.{limits_all}

-- These acts read and print nothing.
abbrev pub ReadsNone : List Act → Type 0
ReadsNone [] = Unit {0}
ReadsNone (reads names events ∷ acts) = ⊥
ReadsNone (merges names events ∷ acts) = ⊥
ReadsNone (prints text ∷ acts) = ⊥
ReadsNone (_ ∷ acts) = ReadsNone acts

-- Nothing is printed, and nothing is read after the first file is written.
abbrev pub ReadsFirst : List Act → Type 0
ReadsFirst [] = Unit {0}
ReadsFirst (merges names events ∷ acts) = ⊥
ReadsFirst (prints text ∷ acts) = ⊥
ReadsFirst (writes name text ∷ acts) = ReadsNone acts
ReadsFirst (_ ∷ acts) = ReadsFirst acts

-- Acts that read nothing also read nothing after the first file is written.
reads_first : (acts : List Act) → ReadsNone acts → ReadsFirst acts
reads_first [] none = tt
reads_first (reads names events ∷ acts) none = absurd none
reads_first (merges names events ∷ acts) none = absurd none
reads_first (prints text ∷ acts) none = absurd none
reads_first (writes name text ∷ acts) none = none
reads_first (act ∷ acts) none = reads_first acts none

-- Acts that read nothing keep the limits and don't increase the shelf's failure count.
pub keeps_none : (acts : List Act) → ReadsNone acts → ActsKeepLimits acts
keeps_none [] none = tt
keeps_none (reads names events ∷ acts) none = absurd none
keeps_none (merges names events ∷ acts) none = absurd none
keeps_none (prints text ∷ acts) none = absurd none
keeps_none (act ∷ acts) none = (tt, keeps_none acts none)

-- The shelf stops only acts of reading.
pub shelf_stays : (act : Act) (stop : Stop) (about : List ℕ) (old new : Devices) → ReadsNone (act ∷ [])
    → Breaks act (ending stop about) old new → new.shelf.failed ≡ old.shelf.failed
shelf_stays (reads names events) stop about old new none broke = absurd none
shelf_stays (merges names events) stop about old new none broke = absurd none
shelf_stays act (ReadFault file) about old new none broke = absurd broke
shelf_stays act stop about old new none broke = grind (arith, broken)

pub shelf_none : (acts : List Act) (stop : Stop) (about : List ℕ) (old new : Devices) → ReadsNone acts
    → PerformsActs acts (Some (ending stop about)) old new → new.shelf.failed ≡ old.shelf.failed
shelf_none [] stop about old new none run = absurd run
shelf_none (reads names events ∷ acts) stop about old new none run = absurd none
shelf_none (merges names events ∷ acts) stop about old new none run = absurd none
shelf_none (prints text ∷ acts) stop about old new none run = absurd none
shelf_none (act ∷ acts) stop about old new none (inl run) =
    shelf_none acts stop about (after_act act old) new none run.1
shelf_none (act ∷ acts) stop about old new none (inr here) = shelf_stays act stop about old new tt here

reads_none-web : (shown : Shown) (web : Web) → ReadsNone (web_acts shown web)
reads_none-web shown web = starred_on Any ReadsNone said shown.progress web.starred _ (λ ns. tt)
    (said_on Any ReadsNone said web.faults _ (λ item. tt) (planned_none web.plan))
  where
    said : (item : LogItem) (acts : List Act) → Unit {0} → ReadsNone acts → ReadsNone (says item ∷ acts)
    said item acts any none = none

    closing_none : (count : ℕ) (missing : Bool) → ReadsNone (closing_acts shown web.numbers count missing)
    closing_none count missing = closing_on Any ReadsNone said shown web.numbers count missing tt tt tt

    planned_none : (plan : Planning) → ReadsNone (planned_acts shown web.numbers (fault_count web.faults) plan)
    planned_none (refused text) = closing_none (fault_count web.faults + 1) false
    planned_none (planned files missing) =
        warning_on Any ReadsNone said shown _ _ files missing tt (outputs_on Any ReadsNone said shown.progress files _
        (λ name. tt) (λ name text acts none. none) (closing_none (fault_count web.faults) missing))

reads_first-banner : (shown : Shown) (acts : List Act) → ReadsFirst acts → ReadsFirst (when shown.banner banner ++ acts)
reads_first-banner shown acts first = grind (arith, when_on)

-- A script reads nothing after the first file is written.
pub script_reads_first : (shown : Shown) (course : TangleCourse) → ReadsFirst (script shown course)
script_reads_first shown unread = tt
script_reads_first shown (not_there web) = reads_first-banner shown (opens ∷ says _ ∷ []) tt
script_reads_first shown (change_not_there change) = reads_first-banner shown (opens ∷ says _ ∷ []) tt
script_reads_first shown (tangling files events web) = grind (arith, reads_first-banner, reads_first, reads_none-web)

-- A run that changed the output has read everything.
all_read : (acts : List Act) (stop : Stop) (about : List ℕ) (old new : Devices) → ReadsFirst acts
    → PerformsActs acts (Some (ending stop about)) old new → (new.out ≡ old.out) ⊎ HasReadAll acts old new
all_read [] stop about old new first run = absurd run
all_read (merges names events ∷ acts) stop about old new first run = absurd first
all_read (prints text ∷ acts) stop about old new first run = absurd first
all_read (writes name text ∷ acts) stop about old new first (inl run) = grind (arith, inr, shelf_none, keeps_none)
all_read (writes name text ∷ acts) stop about old new first (inr here) = grind (arith, inr, shelf_stays, keeps_none)
all_read (act ∷ acts) stop about old new first (inl run) =
    grind (arith, all_read acts stop about (after_act act old) new first run.1, inl, inr)
all_read (act ∷ acts) stop about old new first (inr here) = grind (arith, inl, broken)

pub ends_read : (shown : Shown) (course : TangleCourse) {expected : ℕ} {old new : Devices} {status : ℕ}
    → RunEnds (script shown course) expected old new status
    → (new.out ≡ old.out) ⊎ HasReadAll (script shown course) old new
ends_read shown course {old = old} {new = new} (completes run answered) = grind (arith, inr, counts_all, limits_all)
ends_read shown course {old = old} {new = new} (stops (ending stop about) mid run logs answered) =
    grind (arith, all_read, script_reads_first, inl, inr)

-- If the output differs, everything was read.
pub read_if_changed : {acts : List Act} {old new : Devices} → (new.out ≡ old.out) ⊎ HasReadAll acts old new
    → new.out.contents ≢ old.out.contents → HasReadAll acts old new
read_if_changed (inl same) changed = absurd (changed (ap (λ (out : SinkModel). out.contents) same))
read_if_changed (inr all) changed = all
