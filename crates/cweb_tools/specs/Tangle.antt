-- How a run of `ctangle` goes, its promise, and its headline theorem.
use Rattle.std.specs.Prelude.{◌≡◌, ℕ, List, ◌++◌, map, count_by, Option, None, Some, Result, Ok, Err}
use Rattle.std.specs.Option.{option_map_or}
use Rattle.cweb_files.specs.Files.{File}
use Rattle.cweb_lines.specs.Include.{World}
use Rattle.cweb_lines.specs.Events.{emitted_lines, reported_faults, openings}
use Rattle.cweb_lines.specs.declared.fault.SourceFault.{SourceFault}
use Rattle.cweb_store.specs.Calls.{Stored}
use Rattle.cweb_store.specs.Parts.{Part, is_macro}
use Rattle.cweb_scan.specs.Lexemes.{Scanned, scanned}
use Rattle.cweb_out.specs.Expansion.{expand, names}
use Rattle.cweb_out.specs.Outputs as out
use Rattle.cweb_out.specs.Outputs.{Output, Planned, Refusal, root_list}
use Rattle.cweb_out.specs.Printing.{setting, file}
use Rattle.cweb_tools.specs.Items.{source_item, name_items, refusal_message, scan_item}
use Rattle.cweb_tools.specs.CommandLine.{OptionsModel, shown_by_default}
use Rattle.cweb_tools.specs.declared.options.Shown.{Shown}
use Rattle.cweb_tools.specs.MergeActs as course
use Rattle.cweb_tools.specs.MergeActs.{Course, IsMergeCourse, change_name}
use Rattle.cweb_tools.specs.Script.{Numbers, Planning, TangleCourse, Web, unread, not_there, change_not_there, tangling}
use Rattle.cweb_tools.specs.Script.{refused, planned, script}
use Rattle.cweb_tools.specs.DeviceModels.{Devices}
use Rattle.cweb_tools.specs.Acts.{FollowsActs}
use Rattle.cweb_tools.specs.Headline.{DoesActsFreely}

-- An output as printed, with all names expanded. Line marks name these files.
abbrev pub output_file : Stored → List (List ℕ) → Output → File
output_file web files output =
    record { name = output.name; bytes = file (setting web files) (expand web (names web) (root_list web output.root)) }

-- The result of planning, from a plan or a refusal.
abbrev pub planning_by : Stored → List (List ℕ) → List ℕ → Result Planned Refusal → Planning
planning_by web files main (Ok plan) = planned (map (output_file web files) plan.outputs) plan.no_text
planning_by web files main (Err refusal) = refused (refusal_message web main refusal)

-- The result of planning for a main output of this name.
abbrev pub planning : Stored → List (List ℕ) → List ℕ → Planning
planning web files main = planning_by web files main (out.planned web main)

-- The numbers of a web.
abbrev pub numbers_of : Scanned → Numbers
numbers_of made = record {
  sections = made.sections;
  names = names made.store;
  macros = count_by (λ (part : Part). is_macro part.kind) made.store.parts;
}

-- A scanned web, from its file names, the faults of web and change file, the scan, and the main output's name. Its faults
-- are those of the files, then of the source, then of the names.
abbrev pub web_of : List (List ℕ) → List SourceFault → Scanned → List ℕ → Web
web_of files faults made main = record {
  starred = made.starred;
  faults = map (source_item files) faults ++ (map (scan_item files) made.faults ++ name_items made.store);
  numbers = numbers_of made;
  plan = planning made.store files main;
}

-- The course of `ctangle` continues that of the merge with the web of its lines.
abbrev pub tangled : List ℕ → Course → TangleCourse
tangled main course.unread = unread
tangled main (course.not_there web) = not_there web
tangled main (course.change_not_there change) = change_not_there change
tangled main (course.merging first events) =
    let files = first ++ openings events in
    tangling files events (web_of files (reported_faults events) (scanned (emitted_lines events)) main)

-- A run of these arguments goes this way.
abbrev pub IsTangleCourse : World → Option OptionsModel → TangleCourse → Type 0
IsTangleCourse world None course = course ≡ unread
IsTangleCourse world (Some args) course =
    (merge : Course) × IsMergeCourse world (Some args.names.merge) merge × (course ≡ tangled args.names.main merge)

-- A scanned web with files of these names and a main output of this name.
pub record IsWebOf (files : List (List ℕ)) (main : List ℕ) (web : Web) : Type 0 where
  pub faults : List SourceFault
  pub made : Scanned
  pub is : web ≡ web_of files faults made main

-- A course that is possible for these words, for some shelf.
abbrev pub CanCome : Option OptionsModel → TangleCourse → Type 0
CanCome None unread = Unit {0}
CanCome (Some args) (not_there web) = web ≡ args.names.merge.web
CanCome (Some args) (change_not_there change) = change ≡ change_name args.names.merge.change
CanCome (Some args) (tangling files events web) = IsWebOf files args.names.main web
CanCome args course = ⊥

-- The log options of the words.
abbrev pub shown_by : Option OptionsModel → Shown
shown_by args = option_map_or (λ (args : OptionsModel). args.shown) args shown_by_default

-- A run of `ctangle` follows its script.
abbrev pub TanglePromises : World → Option OptionsModel → Devices → Devices → ℕ → Type 0
TanglePromises world args before after status =
    FollowsActs (script (shown_by args)) (CanCome args) (IsTangleCourse world args) before after status

-- The headline theorem of `ctangle`.
abbrev pub TanglesFreely : World → Option OptionsModel → Devices → Devices → ℕ → Type 0
TanglesFreely world args before after status =
    DoesActsFreely (script (shown_by args)) (IsTangleCourse world args) before after status
