-- The targets that `wdep` prints are the files that `ctangle` writes.
use Rattle.cweb_tools.proofs.Common.{◌≡◌, ℕ, Bool, true, false, List, [], ◌∷◌, ◌++◌, map, refl, sym, ◌∙◌, ap, File, Event, LogItem, Shown, Act, opens, reads, Planning, planned, Web, tangling, written_files, outputs_acts, planned_acts, web_acts, tangle_files, dependencies, fault_count, arith, Stored, Output, output_file, append-nil, says, printed_bytes, refused, depend_plan_acts}
use Rattle.cweb_tools.specs.Depfile.{depfile, each_once}
use Rattle.cweb_tools.specs.laws.RunEffects.{TargetsAreWrittenFiles}
use Rattle.cweb_tools.specs.declared.rule_targets.Targets.{Targets}
use Rattle.cweb_tools.specs.declared.rule_targets.Targets.TheVariants.{All, Main}
use Rattle.cweb_tools.specs.Depend.{among_outputs, depend_acts}
use Rattle.std.proofs.lemmas.List.{take-map}
use Rattle.cweb_tools.proofs.Statuses.{same_status}
use Rattle.cweb_tools.proofs.WebActs.{Any, when_on, said_on, starred_on, closing_on, warning_on}

said_bytes : (items : List LogItem) (acts : List Act) → printed_bytes (map says items ++ acts) ≡ printed_bytes acts
said_bytes [] acts = refl
said_bytes (item ∷ items) acts = said_bytes items acts

plan_bytes : (targets : Targets) (files : List (List ℕ)) (plan : Planning)
    → printed_bytes (depend_plan_acts targets files plan) ≡ dependencies targets files plan
plan_bytes targets files (refused text) = refl
plan_bytes targets files (planned outputs true) = append-nil (dependencies targets files (planned outputs true))
plan_bytes targets files (planned outputs false) = append-nil (dependencies targets files (planned outputs false))

pub depend-prints : (targets : Targets) (files : List (List ℕ)) (events : List Event) (web : Web)
    → printed_bytes (depend_acts targets (tangling files events web)) ≡ dependencies targets files web.plan
depend-prints targets files events web = said_bytes web.faults _ ∙ plan_bytes targets files web.plan

-- The acts write these files.
abbrev Writes : List File → List Act → Type 0
Writes files acts = written_files acts ≡ files

says_on : (files : List File) (item : LogItem) (acts : List Act) → Any item → Writes files acts → Writes files acts
says_on files item acts any rest = rest

outputs_written : (progress : Bool) (files : List File) (acts : List Act) → Writes [] acts
    → Writes files (outputs_acts progress files ++ acts)
outputs_written progress [] acts none = none
outputs_written true (file ∷ files) acts none = grind (arith, outputs_written true files acts none)
outputs_written false (file ∷ files) acts none = grind (arith, outputs_written false files acts none)

tangle_written : (shown : Shown) (files : List (List ℕ)) (events : List Event) (web : Web) (outputs : List File)
    (missing : Bool) → web.plan ≡ planned outputs missing → tangle_files shown (tangling files events web) ≡ outputs
tangle_written shown files events web outputs missing is =
    let count = fault_count web.faults in
    let plan : Writes outputs (planned_acts shown web.numbers count (planned outputs missing)) =
    warning_on Any (Writes outputs) (says_on outputs) shown web.numbers count outputs missing tt
    (outputs_written shown.progress outputs _
    (closing_on Any (Writes []) (says_on []) shown web.numbers count missing tt tt refl)) in
    when_on Any (Writes outputs) (says_on outputs) shown.banner _ (opens ∷ reads files events ∷ web_acts shown web) tt
    (starred_on Any (Writes outputs) (says_on outputs) shown.progress web.starred _ (λ ns. tt)
    (said_on Any (Writes outputs) (says_on outputs) web.faults _ (λ item. tt)
    (ap (λ (p : Planning). written_files (planned_acts shown web.numbers count p)) is ∙ plan)))

abbrev named : List File → List (List ℕ)
named outputs = map (λ (file : File). file.name) outputs

-- The names of the targets are those of the outputs.
among_names : (targets : Targets) (outputs : List File)
    → named (among_outputs targets outputs) ≡ among_outputs targets (named outputs)
among_names All outputs = refl
among_names Main outputs = sym (take-map (λ (file : File). file.name) 1 outputs)

pub targets_are_written : TargetsAreWrittenFiles
targets_are_written = record {
  targets = λ shown targets files events web outputs missing is. depend-prints targets files events web
      ∙ ap (dependencies targets files) is
      ∙ ap (λ (names : List (List ℕ)). depfile names (each_once files)) (among_names targets outputs
      ∙ ap (λ (all : List File). among_outputs targets (named all))
      (sym (tangle_written shown files events web outputs missing is)));
  status = λ shown targets course. same_status targets shown course;
}

-- The targets are the names of the outputs.
target_names : (web : Stored) (files : List (List ℕ)) (outputs : List Output)
    → map (λ (file : File). file.name) (map (output_file web files) outputs)
    ≡ map (λ (output : Output). output.name) outputs
target_names web files [] = refl
target_names web files (output ∷ outputs) = grind (arith, target_names web files outputs)

pub target_names_among : (web : Stored) (files : List (List ℕ)) (targets : Targets) (outputs : List Output)
    → map (λ (file : File). file.name) (among_outputs targets (map (output_file web files) outputs))
    ≡ map (λ (output : Output). output.name) (among_outputs targets outputs)
target_names_among web files All outputs = target_names web files outputs
target_names_among web files Main outputs = grind (arith, take-map, target_names)
