-- Laws of whole runs. Each follows from the definition of how a run ends.
use Rattle.std.specs.Prelude.{fold, ◌≡◌, ℕ, List, ◌++◌, option_map, ◌≢◌, ◌≤◌, ◌⊎◌, ◌+◌, Option, Some, None, Bool, IsSome}
use Rattle.std.specs.Prelude.{codes, map}
use Rattle.std.specs.Option.{option_and_then}
use Rattle.cweb_files.specs.Files.{put_file, File}
use Rattle.cweb_files.specs.declared.bins.BinFault.{BinFault}
use Rattle.cweb_lines.specs.Events.{Event}
use Rattle.cweb_lines.specs.declared.stop.Stop.{Stop}
use Rattle.cweb_lines.specs.declared.stop.Stop.TheVariants.{OutNotOpened, ReadFault, WriteFault, LogFault}
use Rattle.cweb_tools.specs.DeviceModels.{Devices, FailedReads, Logs}
use Rattle.cweb_files.specs.Sinks.{SinkContents, SinkModel, appended}
use Rattle.cweb_tools.specs.declared.options.Shown.{Shown}
use Rattle.cweb_tools.specs.Acts.{Act, acts_status, blaming, logged_items}
use Rattle.cweb_tools.specs.Headline.{ActsKeepLimits, DoesActs, files_in, written_files, printed_bytes}
use Rattle.cweb_tools.specs.Script.{TangleCourse, Web, planned, script, tangling}
use Rattle.std.specs.List.{flat_map}
use Rattle.cweb_lines.specs.Include.{World}
use Rattle.cweb_tools.specs.Items.{LogItem, line, message_line, stop_line}
use Rattle.cweb_tools.specs.CommandLine.{OptionsModel, WebNames}
use Rattle.cweb_files.specs.surface.Writes.{WritesPrefix}
use Rattle.cweb_tools.specs.MergeActs.{Course, IsMergeCourse, MergePromises, merge_acts, merge_devices}
use Rattle.cweb_tools.specs.Tangle.{shown_by, TanglePromises}
use Rattle.cweb_tools.specs.Depend.{DependPromises, among_outputs, depend_acts}
use Rattle.cweb_tools.specs.Depfile.{depfile, each_once}
use Rattle.cweb_tools.specs.declared.rule_targets.Targets.{Targets}

-- The files of a whole run.
abbrev pub tangle_files : Shown → TangleCourse → List File
tangle_files shown course = written_files (script shown course)

-- The status of a whole run.
abbrev pub tangle_status : Shown → TangleCourse → ℕ
tangle_status shown course = acts_status (script shown course)

-- The first of the expected files were committed, in order, each whole. All others are unchanged.
pub record LeavesFiles (expected : List File) (old new : SinkModel) : Type 0 where
  pub done : List File
  pub undone : List File
  pub whole : expected ≡ done ++ undone
  pub is : files_in new ≡ option_map (λ (files : List File). fold put_file files done) (files_in old)

-- No read failed, and all lines were within the limits.
pub record HasReadAll (acts : List Act) (before after : Devices) : Type 0 where
  pub shelf : after.shelf.failed ≡ before.shelf.failed
  pub within : ActsKeepLimits acts

-- The increase of the shelf's failure count at a stop.
abbrev pub read_failures_of : Stop → ℕ
read_failures_of (ReadFault file) = 1
read_failures_of _ = 0

-- The increase of the bins' failure count at a stop.
abbrev pub bins_blame : Stop → ℕ
bins_blame OutNotOpened = 1
bins_blame WriteFault = 1
bins_blame _ = 0

-- The first items were logged and then the stop's line, or the log failed within them.
pub record LogsUpTo (items : List LogItem) (stop : Stop) (about : List ℕ) (old new : SinkModel) : Type 0 where
  pub before : List LogItem
  pub later : List LogItem
  pub whole : items ≡ before ++ later
  pub logs : Logs (flat_map line before ++ stop_line stop about) old new

-- A stop ended the run: the log's contents, and the device that failed.
pub record IsStopped (acts : List Act) (stop : Stop) (about : List ℕ) (old new : Devices) : Type 0 where
  pub log : LogsUpTo (logged_items acts) stop about old.log new.log
  pub shelf : new.shelf.failed ≡ old.shelf.failed + read_failures_of stop
  pub bins : new.out.failed ≡ old.out.failed + bins_blame stop
  pub log_fails : stop ≡ LogFault → new.log.failed ≡ old.log.failed + 1

-- All acts were done, or something stopped the run.
abbrev pub IsEnded : List Act → Devices → Devices → ℕ → Type 0
IsEnded acts old new status = DoesActs acts old new status
    ⊎ ((stop : Stop) × (about : List ℕ) × IsStopped acts stop about old new × (status ≡ 1))

-- A count rose by at most one.
abbrev pub RisesOnce : ℕ → ℕ → Type 0
RisesOnce old new = (new ≡ old) ⊎ (new ≡ old + 1)

-- No device failed twice, and shelf and output didn't both fail.
pub record FailsOnce (before after : Devices) : Type 0 where
  pub shelf : RisesOnce before.shelf.failed after.shelf.failed
  pub out : RisesOnce before.out.failed after.out.failed
  pub log : RisesOnce before.log.failed after.log.failed
  pub one : after.shelf.failed + after.out.failed ≤ before.shelf.failed + before.out.failed + 1

-- A device that failed makes the status 1.
pub record ReportsFaults (before after : Devices) (status : ℕ) : Type 0 where
  pub read : after.shelf.failed ≢ before.shelf.failed → status ≡ 1
  pub written : after.out.failed ≢ before.out.failed → status ≡ 1
  pub logged : after.log.failed ≢ before.log.failed → status ≡ 1

-- The name of the draft of an output, if one is open.
abbrev pub draft_in : SinkModel → Option (List ℕ)
draft_in out = option_and_then (λ (contents : SinkContents). contents.beside.draft) out.contents

-- Why the last file was refused, if it was.
abbrev pub last_refusal : SinkModel → Option BinFault
last_refusal out = option_and_then (λ (contents : SinkContents). contents.beside.refused) out.contents

-- The effect of a run on the devices, however it ends.
pub record LeavesDevices (acts : List Act) (before after : Devices) (status : ℕ) : Type 0 where
  -- All acts were done; or the log has the first items and the line of the stop, and the status is 1.
  pub ended : IsEnded acts before after status
  -- The bins have the first expected files, each whole.
  pub filed : LeavesFiles (written_files acts) before.out after.out
  -- No draft is left.
  pub draft : draft_in before.out ≡ None → draft_in after.out ≡ None
  -- The bins change only if no read failed and the limits were kept.
  pub read : after.out.contents ≢ before.out.contents → HasReadAll acts before after
  -- If a file was refused, the status is 1.
  pub refused : (why : BinFault) → last_refusal after.out ≡ Some why
      → (last_refusal before.out ≡ Some why) ⊎ (status ≡ 1)
  -- A web that breaks the limits never gives status 0.
  pub limits : ¬ ActsKeepLimits acts → status ≡ 1
  pub once : FailsOnce before after
  pub faults : ReportsFaults before after status

abbrev pub EveryRunLeavesDevices : Type 0
EveryRunLeavesDevices = (world : World) (args : Option OptionsModel) (before after : Devices) (status : ℕ)
    → (run : TanglePromises world args before after status)
    → LeavesDevices (script (shown_by args) run.course) before after status

-- A prefix of what these acts print was printed, and all of it if the status is 0.
pub record PrintsActs (acts : List Act) (old new : SinkModel) (status : ℕ) : Type 0 where
  pub some : WritesPrefix (printed_bytes acts) old new
  pub all : status ≡ 0 → new.contents ≡ appended (printed_bytes acts) old.contents

-- The effect of a run of `wmerge`, however it ends.
pub record LeavesMerge (course : Course) (before after : Devices) (status : ℕ) : Type 0 where
  -- The output is a prefix of the merged lines. The status is 0 only if it is all of them.
  pub prints : IsSome before.shelf.blamed → PrintsActs (merge_acts course) before.out after.out status
  -- A web that breaks the limits never gives status 0.
  pub limits : IsSome before.shelf.blamed → ¬ ActsKeepLimits (merge_acts course) → status ≡ 1
  pub once : FailsOnce before after
  pub faults : ReportsFaults before after status

abbrev pub EveryMergeLeavesOutput : Type 0
EveryMergeLeavesOutput = (world : World) (args : Option WebNames) (before after : Devices) (status : ℕ)
    → MergePromises world args before after status
    → (course : Course) → IsMergeCourse world args course
    → LeavesMerge course (merge_devices before) (merge_devices after) status

-- One read failed. The shelf blames one file, the log names it, and the status is 1.
pub record BlamesOneFile (old new : FailedReads) (log log' : SinkModel) (status : ℕ) : Type 0 where
  pub name : List ℕ
  pub blamed : new ≡ blaming name old
  -- The last line of a log that didn't fail.
  pub logged : log'.failed ≡ log.failed → (lines : List ℕ)
      × (log'.contents ≡ appended (lines ++ message_line (codes "Read fault on ") name) log.contents)
  pub answered : status ≡ 1

-- The shelf after a run, and the log.
pub record LeavesShelf (old new : FailedReads) (log log' : SinkModel) (status : ℕ) : Type 0 where
  pub none : new.failed ≡ old.failed → new ≡ old
  pub one : new.failed ≢ old.failed → BlamesOneFile old new log log' status

-- Each of the three programs leaves the shelf so.
pub record EveryRunLeavesTheShelf : Type 0 where
  pub tangle : (world : World) (args : Option OptionsModel) (before after : Devices) (status : ℕ)
      → TanglePromises world args before after status
      → LeavesShelf before.shelf after.shelf before.log after.log status
  pub merge : (world : World) (args : Option WebNames) (before after : Devices) (status : ℕ)
      → MergePromises world args before after status
      → LeavesShelf before.shelf after.shelf before.log after.log status
  pub depend : (world : World) (targets : Targets) (args : Option OptionsModel) (before after : Devices) (status : ℕ)
      → DependPromises world targets args before after status
      → LeavesShelf before.shelf after.shelf before.log after.log status

-- If `ctangle` has a plan, the targets are the names of the files that it writes, or the first of them. The option
-- changes nothing else: the prerequisites are the same. In any case the status is that of `ctangle`.
pub record TargetsAreWrittenFiles : Type 0 where
  pub targets : (shown : Shown) (targets : Targets) (files : List (List ℕ)) (events : List Event) (web : Web)
      (outputs : List File) (missing : Bool) → web.plan ≡ planned outputs missing
      → printed_bytes (depend_acts targets (tangling files events web))
      ≡ depfile (among_outputs targets (map (λ file. file.name) (tangle_files shown (tangling files events web))))
      (each_once files)
  pub status : (shown : Shown) (targets : Targets) (course : TangleCourse)
      → acts_status (depend_acts targets course) ≡ tangle_status shown course
