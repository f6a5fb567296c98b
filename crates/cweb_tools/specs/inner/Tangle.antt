-- A scanned web, how it is opened, the acts and status of a run after its words are parsed, and its outputs.
use Rattle.std.specs.Prelude.{Ok, count_by, ◌≡◌, ℕ, ◌==◌, List, [], ◌∷◌, Option, None, Some, if◌then◌else◌, length}
use Rattle.std.specs.Prelude.{string_bytes, All, map, vec_capacity, Result, Err}
use Rattle.cweb_lines.specs.Include.{World}
use Rattle.cweb_lines.specs.declared.stop.Stop.TheVariants.{WebNotOpened, ChangeNotOpened}
use Rattle.cweb_out.specs.Expansion.{names}
use Rattle.cweb_out.specs.Outputs.{Planned, Output}
use Rattle.cweb_store.specs.Calls.{Stored}
use Rattle.cweb_tools.specs.Items.{LogItem, is_fault, stopped}
use Rattle.cweb_tools.specs.CommandLine.{OptionsModel}
use Rattle.cweb_tools.specs.DeviceModels.{FailedReads, Devices}
use Rattle.cweb_files.specs.Sinks.{SinkModel}
use Rattle.cweb_tools.specs.Acts.{Act, FollowsActs, opens, reads, says, RunEnds, acts_status, Ending, ending}
use Rattle.cweb_tools.specs.Script.{Planning, TangleCourse, unread, not_there, change_not_there, tangling, refused}
use Rattle.cweb_tools.specs.Script.{planned, script, web_acts}
use Rattle.cweb_tools.specs.surface.Options.{options_of}
use Rattle.cweb_tools.specs.declared.options.Options.{Options}
use Rattle.cweb_tools.specs.Tangle.{CanCome, planning_by, shown_by, tangled, web_of, output_file}
use Rattle.cweb_tools.specs.inner.Does.{merge_course, at}
use Rattle.cweb_lines.specs.surface.OpenedFileNames.{opened_file_names}
use Rattle.cweb_scan.specs.surface.Scan.{scanned_model, IsScanBelow, IsMarkBelow}
use Rattle.cweb_tools.specs.declared.web.Web.{Web}
use Rattle.cweb_lines.specs.declared.fault.SourceFault.{SourceFault}
use Rattle.cweb_scan.specs.Lexemes.{Scanned}
use Rattle.cweb_out.specs.declared.outputs.fault.PlanFault.TheVariants as fault
use Rattle.cweb_tools.specs.Script as script
use Rattle.cweb_files.specs.Files.{File}
use Rattle.cweb_lines.specs.declared.files.FileNames.{FileNames}
use Rattle.cweb_store.specs.Parts.{Token, all_tokens}
use Rattle.cweb_out.specs.surface.FrameStacks.{IsFrameStack, left}
use Rattle.cweb_out.specs.surface.Outputs.{IsPlanOf, output_name_at, output_at}
use Rattle.cweb_out.specs.declared.expander.Expander.{Expander}
use Rattle.cweb_tools.specs.declared.outputs.Failed.{Failed}

-- Its plan is one of its store, its stack of frames is valid, and all line marks of its store are about files with
-- names.
pub record IsReady (names : FileNames) (e : Expander) : Type 0 where
  pub made : IsPlanOf e.store.now e.plan.now
  pub valid : IsFrameStack e.store.now e.frames.items (vec_capacity e.frames)
  pub marks : All (IsMarkBelow (length (opened_file_names names))) (all_tokens e.store.now.parts)

pub record StaysReady (old new : Expander) : Type 0 where
  pub store : new.store ≡ old.store
  pub plan : new.plan ≡ old.plan
  pub valid : IsFrameStack new.store.now new.frames.items (vec_capacity new.frames)

-- The tokens that it will still yield.
abbrev pub left_in : Expander → List Token
left_in e = left e.store.now e.frames.items

-- The file of an output, by index.
abbrev pub file_at : FileNames → Expander → ℕ → File
file_at names e number = output_file e.store.now (opened_file_names names) (output_at e.plan.now.outputs number)

-- The files of the plan.
abbrev pub planned_files : FileNames → Expander → List File
planned_files names e = map (output_file e.store.now (opened_file_names names)) e.plan.now.outputs

-- The end of writing the outputs.
abbrev pub output_ending : {A : Type 0} → List Output → Result A Failed → Option Ending
output_ending outputs (Ok x) = None
output_ending outputs (Err failed) = Some (ending failed.stop (output_name_at outputs failed.output))

-- The outputs of a plan, as files.
abbrev pub plan_made : Stored → List (List ℕ) → Planned → Planning
plan_made web files plan = planning_by web files [] (Ok plan)

-- The number of faults among items.
abbrev pub fault_count : List LogItem → ℕ
fault_count items = count_by is_fault items

-- The status of a run with this number of faults that nothing stopped. A refused plan is a fault.
abbrev pub status_by : ℕ → Planning → ℕ
status_by count (refused text) = 1
status_by count (planned files missing) = if count == 0 then 0 else 1

-- The acts after a scan, by the names of the opened files and the web.
abbrev pub LaterActs : Type 0
LaterActs = List (List ℕ) → script.Web → List Act

-- The acts from the opening of the web, with these after its scan.
abbrev pub opening_acts : LaterActs → TangleCourse → List Act
opening_acts later unread = []
opening_acts later (not_there web) = opens ∷ says (stopped WebNotOpened web) ∷ []
opening_acts later (change_not_there change) = opens ∷ says (stopped ChangeNotOpened change) ∷ []
opening_acts later (tangling names events web) = opens ∷ reads names events ∷ later names web

-- The way that a run goes, as a function.
abbrev pub tangle_course : World → Option OptionsModel → TangleCourse
tangle_course world None = unread
tangle_course world (Some args) = tangled args.names.main (merge_course world (Some args.names.merge))

-- A run of `ctangle` ends as its course does.
abbrev pub EndsTangle : Option OptionsModel → World → Devices → Devices → ℕ → Type 0
EndsTangle args world before after status =
    FollowsActs (script (shown_by args)) (CanCome args) (λ taken. taken ≡ tangle_course world args) before after status

-- The web was scanned. If the acts after that end so, the run ends as its course does.
abbrev pub BeginsTangle : Option OptionsModel → World → FailedReads → FailedReads → SinkModel → SinkModel → Options
    → List (List ℕ) → List SourceFault → Scanned → Type 0
BeginsTangle args world shelf shelf' log log' options files faults made =
    (out : SinkModel) (after : Devices) (status : ℕ) →
    let acts = web_acts (options_of options).shown (web_of files faults made (string_bytes options.main)) in
    RunEnds acts (acts_status acts) (at shelf' out log') after status
    → EndsTangle args world (at shelf out log) after status

-- The names of a scanned web's files.
abbrev pub files_of : Web → List (List ℕ)
files_of web = opened_file_names web.names.now

-- The model of a scanned web, for a main output of this name.
abbrev pub web_in : Web → List ℕ → script.Web
web_in web main = web_of (files_of web) web.faults.now (scanned_model web.scanned.now) main

abbrev pub faults_of : Web → List LogItem
faults_of web = (web_in web []).faults

-- The files of a web's line marks have names.
abbrev pub IsKnown : Web → Type 0
IsKnown web = IsScanBelow (length (files_of web)) (scanned_model web.scanned.now)

-- The part of a run from the opening of the web ends as its course does.
abbrev pub EndsAs : LaterActs → OptionsModel → TangleCourse → Devices → Devices → ℕ → Type 0
EndsAs later args course before after status =
    FollowsActs (opening_acts later) (CanCome (Some args)) (λ taken. taken ≡ course) before after status

-- Something stopped the opening or the scan, and that was logged.
abbrev pub StopsScan : OptionsModel → TangleCourse → FailedReads → FailedReads → SinkModel → SinkModel → ℕ
    → Type 0
StopsScan args course shelf shelf' log log' status = (later : LaterActs) (out : SinkModel)
    → EndsAs later args course (at shelf out log) (at shelf' out log') status

-- The web was scanned. If the acts after that end so, the run ends as its course does.
abbrev pub CompletesScan : OptionsModel → TangleCourse → FailedReads → FailedReads → SinkModel → List (List ℕ)
    → List SourceFault → Scanned → Type 0
CompletesScan args course shelf shelf' log files faults made =
    (later : LaterActs) (out : SinkModel) (after : Devices) (status : ℕ)
    → RunEnds (later files (web_of files faults made args.names.main))
    (acts_status (later files (web_of files faults made args.names.main))) (at shelf' out log) after status
    → EndsAs later args course (at shelf out log) after status
