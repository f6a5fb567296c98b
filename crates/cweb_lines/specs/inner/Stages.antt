-- The stage of a merger, and the files that faults and stops name.
use Rattle.std.specs.Prelude.{◌≢◌, ℕ, ◌+◌, ◌&&◌, Bool, List, Option, None, Some, if◌then◌else◌, max, [], ◌∷◌}
use Rattle.std.specs.Str.{bytes_eq}
use Rattle.cweb_files.specs.declared.place.Place.{Place}
use Rattle.cweb_lines.specs.Change.{WaitingEntry}
use Rattle.cweb_lines.specs.declared.change.Stage.{Stage}
use Rattle.cweb_lines.specs.declared.change.Stage.TheVariants.{Done, Seeking, Waiting, Changing}
use Rattle.cweb_lines.specs.surface.OpenSources.{files_named, Stop}
use Rattle.cweb_lines.specs.declared.fault.SourceFault.{SourceFault}

-- The number of sources that stay open.
abbrev pub floor_of : Stage → ℕ
floor_of (Changing change) = change.below
floor_of _ = 0

abbrev pub new_depth : Stage → ℕ
new_depth (Changing change) = change.depth
new_depth _ = 0

-- The least number of files that the entry of a stage implies.
abbrev pub files_begun : Stage → ℕ
files_begun (Waiting begin) = begin.file.0 + 1
files_begun (Changing change) = change.begin.file.0 + 1
files_begun _ = 0

-- The place of the @x of the entry that this line begins, if any.
abbrev pub begun_by : Option WaitingEntry → Bool → List ℕ → Option Place
begun_by None may_match bytes = None
begun_by (Some entry) may_match bytes = if may_match && bytes_eq bytes entry.first then Some entry.begin else None

abbrev pub IsSettled : Stage → Type 0
IsSettled stage = stage ≢ Seeking

abbrev pub IsOutside : Stage → Type 0
IsOutside Done = Unit {0}
IsOutside (Waiting begin) = Unit {0}
IsOutside _ = ⊥

-- How many turns this stage may take without a line.
abbrev pub weight_of : Stage → ℕ
weight_of Done = 0
weight_of Seeking = 2
weight_of (Waiting begin) = 1
weight_of (Changing change) = 3

-- How a merge with or without a change file begins.
abbrev pub stage_for : {A : Type 0} → Option A → Stage
stage_for None = Done
stage_for (Some change) = Seeking

-- The least number of files that these faults imply.
unfoldable pub files_of_faults : List SourceFault → ℕ
files_of_faults [] = 0
files_of_faults (fault ∷ faults) = max (fault.place.file.0 + 1) (files_of_faults faults)

abbrev pub files_of_stop : Option Stop → ℕ
files_of_stop None = 0
files_of_stop (Some stop) = files_named stop
