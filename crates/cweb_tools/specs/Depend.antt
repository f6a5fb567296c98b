-- The acts of a run of `wdep`, its promise, and its headline theorem.
use Rattle.std.specs.Prelude.{ℕ, ◌==◌, List, [], ◌∷◌, ◌++◌, codes, fold, map, take, Option, if◌then◌else◌}
use Rattle.std.specs.List.{list_any}
use Rattle.cweb_lines.specs.Include.{World}
use Rattle.cweb_lines.specs.declared.stop.Stop.TheVariants.{Usage, WebNotOpened, ChangeNotOpened}
use Rattle.cweb_tools.specs.Items.{fault, no_text, stopped}
use Rattle.cweb_tools.specs.CommandLine.{OptionsModel}
use Rattle.cweb_tools.specs.DeviceModels.{Devices}
use Rattle.cweb_tools.specs.Acts.{Act, judges, says, opens, reads, plans, reserves, prints, FollowsActs}
use Rattle.cweb_tools.specs.Depfile.{depfile, each_once}
use Rattle.cweb_tools.specs.declared.rule_targets.Targets.{Targets}
use Rattle.cweb_tools.specs.declared.rule_targets.Targets.TheVariants.{All, Main}
use Rattle.cweb_tools.specs.Headline.{DoesActsFreely}
use Rattle.cweb_tools.specs.Script.{Planning, TangleCourse, Web, unread, not_there, change_not_there, tangling}
use Rattle.cweb_tools.specs.Script.{refused, planned, when}
use Rattle.cweb_tools.specs.Tangle.{CanCome, IsTangleCourse}

-- An option word with the letter `m`: after `+` the main file alone is a target, after `-` all outputs are.
abbrev pub targets_by_prefix : Targets → ℕ → Targets
targets_by_prefix targets prefix = if prefix == 43 then Main else (if prefix == 45 then All else targets)

abbrev pub targets_after : Targets → List ℕ → Targets
targets_after targets [] = targets
targets_after targets (prefix ∷ letters) =
    if list_any (λ b. b == 109) letters then targets_by_prefix targets prefix else targets

-- The targets that the arguments ask for. The last option word with an `m` counts.
abbrev pub targets_by : List (List ℕ) → Targets
targets_by words = fold targets_after All words

-- Those of the outputs that are targets.
abbrev pub among_outputs : {A : Type 0} → Targets → List A → List A
among_outputs All outputs = outputs
among_outputs Main outputs = take 1 outputs

-- The acts for a plan of a web with these input files.
abbrev pub depend_plan_acts : Targets → List (List ℕ) → Planning → List Act
depend_plan_acts targets files (refused text) = says (fault text) ∷ []
depend_plan_acts targets files (planned outputs missing) =
    let targets = map (λ output. output.name) (among_outputs targets outputs) in
    when missing no_text ++ (reserves ∷ prints (depfile targets (each_once files)) ∷ [])

-- The acts for a scanned web.
abbrev pub depend_web_acts : Targets → List (List ℕ) → Web → List Act
depend_web_acts targets files web = map says web.faults ++ (plans ∷ depend_plan_acts targets files web.plan)

-- The acts of a run. Its course is that of `ctangle`.
abbrev pub depend_acts : Targets → TangleCourse → List Act
depend_acts targets unread =
    says (stopped Usage (codes "wdep [options] webfile[.w] [{changefile[.ch]|-} [outfile[.c]]]")) ∷ []
depend_acts targets (not_there web) = judges ∷ opens ∷ says (stopped WebNotOpened web) ∷ []
depend_acts targets (change_not_there change) = judges ∷ opens ∷ says (stopped ChangeNotOpened change) ∷ []
depend_acts targets (tangling files events web) = judges ∷ opens ∷ reads files events ∷ depend_web_acts targets files web

-- A run of `wdep` follows these acts.
abbrev pub DependPromises : World → Targets → Option OptionsModel → Devices → Devices → ℕ → Type 0
DependPromises world targets args before after status =
    FollowsActs (depend_acts targets) (CanCome args) (IsTangleCourse world args) before after status

-- The headline theorem of `wdep`.
abbrev pub DependsFreely : World → Targets → Option OptionsModel → Devices → Devices → ℕ → Type 0
DependsFreely world targets args before after status =
    DoesActsFreely (depend_acts targets) (IsTangleCourse world args) before after status
