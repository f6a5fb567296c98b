-- The acts of a run of `ctangle`, from its words and its web.
use Rattle.std.specs.Prelude.{count_by, ℕ, ◌+◌, Bool, true, false, List, [], ◌∷◌, ◌++◌, codes, map}
use Rattle.std.specs.List.{flat_map}
use Rattle.cweb_files.specs.Files.{File}
use Rattle.cweb_lines.specs.Events.{Event}
use Rattle.cweb_lines.specs.declared.stop.Stop.TheVariants.{Usage, WebNotOpened, ChangeNotOpened}
use Rattle.cweb_tools.specs.Items.{LogItem, banner, starred, fault, is_fault, no_text, writing, counts, closing, stopped}
use Rattle.cweb_tools.specs.declared.options.Shown.{Shown}
use Rattle.cweb_tools.specs.Acts.{Act, judges, says, opens, reads, plans, reserves, writes}

-- The numbers of sections, names and macros of a web.
pub record Numbers : Type 0 where
  pub sections : ℕ
  pub names : ℕ
  pub macros : ℕ

-- The result of planning: the message of its fault, or the outputs and whether there is no program text.
pub data Planning : Type 0 where
  refused : List ℕ → Planning
  planned : List File → Bool → Planning

-- A scanned web: its starred sections, the faults of its files and names in order, its numbers, and its plan.
pub record Web : Type 0 where
  pub starred : List ℕ
  pub faults : List LogItem
  pub numbers : Numbers
  pub plan : Planning

-- The course of a run: unreadable words; no web or no change file; or files that are read, with their events and web.
pub data TangleCourse : Type 0 where
  unread : TangleCourse
  not_there : List ℕ → TangleCourse
  change_not_there : List ℕ → TangleCourse
  tangling : List (List ℕ) → List Event → Web → TangleCourse

-- A line that is logged only if an option wants it.
abbrev pub when : Bool → LogItem → List Act
when true item = says item ∷ []
when false item = []

-- The acts after the outputs.
abbrev pub closing_acts : Shown → Numbers → ℕ → Bool → List Act
closing_acts shown numbers count missing =
    when shown.statistics (counts numbers.sections numbers.names numbers.macros)
    ++ when shown.closing (closing count missing)

-- The acts of one output.
abbrev pub output_acts : Bool → File → List Act
output_acts progress file = when progress (writing file.name) ++ writes file.name file.bytes ∷ []

-- The outputs in order. `Writing` is logged before each.
abbrev pub outputs_acts : Bool → List File → List Act
outputs_acts progress files = flat_map (λ file. output_acts progress file) files

-- The acts for a plan, after `count` faults. A refused plan writes nothing, and is one more fault.
abbrev pub planned_acts : Shown → Numbers → ℕ → Planning → List Act
planned_acts shown numbers count (refused text) = says (fault text) ∷ closing_acts shown numbers (count + 1) false
planned_acts shown numbers count (planned files missing) =
    when missing no_text
    ++ (reserves ∷ (outputs_acts shown.progress files ++ closing_acts shown numbers count missing))

-- The starred sections, if progress is wanted and there are any.
abbrev pub starred_acts : Bool → List ℕ → List Act
starred_acts progress [] = []
starred_acts progress (n ∷ numbers) = when progress (starred (n ∷ numbers))

-- The acts for a scanned web.
abbrev pub web_acts : Shown → Web → List Act
web_acts shown web =
    starred_acts shown.progress web.starred
    ++ (map says web.faults ++ (plans ∷ planned_acts shown web.numbers (count_by is_fault web.faults) web.plan))

-- The acts of a run, from its options and its course.
abbrev pub script : Shown → TangleCourse → List Act
script shown unread =
    says (stopped Usage (codes "ctangle [options] webfile[.w] [{changefile[.ch]|-} [outfile[.c]]]")) ∷ []
script shown (not_there web) = judges ∷ (when shown.banner banner ++ (opens ∷ says (stopped WebNotOpened web) ∷ []))
script shown (change_not_there change) =
    judges ∷ (when shown.banner banner ++ (opens ∷ says (stopped ChangeNotOpened change) ∷ []))
script shown (tangling names events web) =
    judges ∷ (when shown.banner banner ++ (opens ∷ reads names events ∷ web_acts shown web))
