-- How a merge goes, and the acts of a run of `wmerge`, its promise, and its headline theorem.
use Rattle.std.specs.Prelude.{◌≡◌, ℕ, List, [], ◌∷◌, ◌++◌, codes, map, Option, None, Some, unwrap_or}
use Rattle.std.specs.Option.{option_and}
use Rattle.cweb_lines.specs.Include.{World, names_found, contents_found, Found, web_at, change_at}
use Rattle.cweb_lines.specs.Events.{reported_faults, openings, Event}
use Rattle.cweb_lines.specs.declared.stop.Stop.TheVariants.{Usage, WebNotOpened, ChangeNotOpened}
use Rattle.cweb_tools.specs.Items.{source_item, stopped}
use Rattle.cweb_tools.specs.CommandLine.{WebNames}
use Rattle.cweb_tools.specs.DeviceModels.{Devices}
use Rattle.cweb_tools.specs.Acts.{Act, judges, says, opens, merges, FollowsActs}
use Rattle.cweb_tools.specs.Headline.{DoesActsFreely}
use Rattle.cweb_lines.specs.Merge.{started, Yields}

-- The folder in which included files are also searched. An empty one counts as none.
abbrev pub folder_of : Option (List ℕ) → Option (List ℕ)
folder_of (Some (b ∷ bs)) = Some (b ∷ bs)
folder_of _ = None

-- The course of a run: the words can't be read; the web isn't there; its change file isn't there; or a merge begins
-- with these open files and has these events.
pub data Course : Type 0 where
  unread : Course
  not_there : List ℕ → Course
  change_not_there : List ℕ → Course
  merging : List (List ℕ) → List Event → Course

-- The change file's name, or no bytes if none is named.
abbrev pub change_name : Option (List ℕ) → List ℕ
change_name name = unwrap_or name []

-- A run goes this way where its search found this web and this change file. A merge yields all its events, whatever the number of steps.
abbrev pub IsFoundCourse : World → WebNames → Option Found → Option (Option Found) → Course → Type 0
IsFoundCourse world names None changes course = course ≡ not_there names.web
IsFoundCourse world names (Some web) None course = course ≡ change_not_there (change_name names.change)
IsFoundCourse world names (Some web) (Some change) (merging files events) =
    (files ≡ web.0 ∷ names_found change) × Yields world (started web.1 (contents_found change)) events
IsFoundCourse world names _ _ course = ⊥

-- A run of these arguments goes this way.
abbrev pub IsMergeCourse : World → Option WebNames → Course → Type 0
IsMergeCourse world None course = course ≡ unread
IsMergeCourse world (Some names) course =
    IsFoundCourse world names (web_at world.texts names.web names.second) (change_at world.texts names.change) course

-- The files of a shelf, with the folder of included files.
abbrev pub world_of : (List ℕ → Option (List ℕ)) → Option (List ℕ) → World
world_of texts inputs = record { texts = texts; inputs = folder_of inputs }

-- The acts of a run. The faults are logged after the merged lines are printed.
abbrev pub merge_acts : Course → List Act
merge_acts unread = says (stopped Usage (codes "wmerge webfile[.w] [{changefile[.ch]|-}]")) ∷ []
merge_acts (not_there web) = judges ∷ opens ∷ says (stopped WebNotOpened web) ∷ []
merge_acts (change_not_there change) = judges ∷ opens ∷ says (stopped ChangeNotOpened change) ∷ []
merge_acts (merging first events) =
    let files = first ++ openings events in
    judges ∷ opens ∷ merges files events ∷ map says (map (source_item files) (reported_faults events))

-- A course that is possible for these words, for some shelf.
abbrev pub MergeCanCome : Option WebNames → Course → Type 0
MergeCanCome None unread = Unit {0}
MergeCanCome (Some names) (not_there web) = web ≡ names.web
MergeCanCome (Some names) (change_not_there change) = change ≡ change_name names.change
MergeCanCome (Some names) (merging first events) = Unit {0}
MergeCanCome args course = ⊥

-- What is known of the devices: the printed lines are known only if the files are.
abbrev pub merge_devices : Devices → Devices
merge_devices seen = record seen {
  out = record seen.out { contents = option_and seen.shelf.blamed seen.out.contents };
}

-- A run of `wmerge` follows these acts.
abbrev pub MergePromises : World → Option WebNames → Devices → Devices → ℕ → Type 0
MergePromises world args before after status = FollowsActs merge_acts (MergeCanCome args) (IsMergeCourse world args)
    (merge_devices before) (merge_devices after) status

-- The headline theorem of `wmerge`.
abbrev pub MergesFreely : World → Option WebNames → Devices → Devices → ℕ → Type 0
MergesFreely world args before after status =
    DoesActsFreely merge_acts (IsMergeCourse world args) (merge_devices before) (merge_devices after) status
