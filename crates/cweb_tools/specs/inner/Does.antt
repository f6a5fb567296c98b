-- The effect of calls as acts, and the course of `wmerge`.
use Rattle.std.specs.Prelude.{ℕ, List, [], Option, Some, None, Result, Ok, Err, ◌+◌, ◌<◌, ◌^◌, ◌≡◌, ◌∷◌}
use Rattle.cweb_lines.specs.declared.stop.Stop.TheVariants.{LogFault}
use Rattle.cweb_tools.specs.DeviceModels.{Devices, FailedReads}
use Rattle.cweb_files.specs.Sinks.{SinkModel}
use Rattle.cweb_tools.specs.Acts.{Act, Ending, ending, PerformsActs, RunEnds, FollowsActs}
use Rattle.cweb_lines.specs.declared.stop.Stop.{Stop}
use Rattle.cweb_lines.specs.Include.{names_found, contents_found, World, Found, web_at, change_at}
use Rattle.cweb_lines.specs.Merge.{started}
use Rattle.cweb_lines.specs.surface.MergeProgress.{merge}
use Rattle.cweb_tools.specs.CommandLine.{WebNames}
use Rattle.cweb_tools.specs.MergeActs.{Course, unread, not_there, change_not_there, merging, change_name, MergeCanCome}
use Rattle.cweb_tools.specs.MergeActs.{merge_acts, merge_devices}

-- The devices of a run.
abbrev pub at : FailedReads → SinkModel → SinkModel → Devices
at shelf out log = record { shelf = shelf; out = out; log = log }

-- The end of a call that logs.
abbrev pub log_ending : {A E : Type 0} → Result A E → Option Ending
log_ending (Ok x) = None
log_ending (Err fault) = Some (ending LogFault [])

-- The acts were done, all or up to a stop.
pub record Does (acts : List Act) (why : Option Ending) (before after : Devices) : Type 0 where
  pub runs : PerformsActs acts why before after

-- Acts of a call that has only the log, whatever the other devices contain.
abbrev pub DoesInLog : List Act → Option Ending → SinkModel → SinkModel → Type 0
DoesInLog acts why log log' =
    (shelf : FailedReads) (out : SinkModel) → Does acts why (at shelf out log) (at shelf out log')

-- Acts of a call that has only the output.
abbrev pub DoesInOut : List Act → Option Ending → SinkModel → SinkModel → Type 0
DoesInOut acts why out out' =
    (shelf : FailedReads) (log : SinkModel) → Does acts why (at shelf out log) (at shelf out' log)

-- Acts of a call that has the output and the log.
abbrev pub DoesInBoth : List Act → Option Ending → SinkModel → SinkModel → SinkModel → SinkModel → Type 0
DoesInBoth acts why out out' log log' =
    (shelf : FailedReads) → Does acts why (at shelf out log) (at shelf out' log')

-- The end of a part of a run that has only the log.
abbrev pub EndsInLog : List Act → ℕ → SinkModel → SinkModel → ℕ → Type 0
EndsInLog acts expected log log' status =
    (shelf : FailedReads) (out : SinkModel) → RunEnds acts expected (at shelf out log) (at shelf out log') status

-- The end of a part that has the output and the log.
abbrev pub EndsInBoth : List Act → ℕ → SinkModel → SinkModel → SinkModel → SinkModel → ℕ → Type 0
EndsInBoth acts expected out out' log log' status =
    (shelf : FailedReads) → RunEnds acts expected (at shelf out log) (at shelf out' log') status

-- What stopped a call, if anything.
abbrev pub ending_of : {A : Type 0} → List ℕ → Result A Stop → Option Ending
ending_of about (Ok x) = None
ending_of about (Err stop) = Some (ending stop about)

-- Each of two failure counts has room for one more failure.
pub record SinkCountsFit (first second : ℕ) : Type 0 where
  pub out : first + 1 < 2 ^ 64
  pub log : second + 1 < 2 ^ 64

-- The course of a merge, from what was found of its web and its change file.
abbrev pub found_course : World → WebNames → Option Found → Option (Option Found) → Course
found_course world names None changes = not_there names.web
found_course world names (Some web) None = change_not_there (change_name names.change)
found_course world names (Some web) (Some change) =
    merging (web.0 ∷ names_found change) (merge world (started web.1 (contents_found change)))

abbrev pub merge_course : World → Option WebNames → Course
merge_course world None = unread
merge_course world (Some names) =
    found_course world names (web_at world.texts names.web names.second) (change_at world.texts names.change)

-- A run of `wmerge` does the acts of its course.
abbrev pub EndsMerge : Option WebNames → Course → Devices → Devices → ℕ → Type 0
EndsMerge args course before after status =
    FollowsActs merge_acts (MergeCanCome args) (λ taken. taken ≡ course) (merge_devices before) (merge_devices after)
    status
