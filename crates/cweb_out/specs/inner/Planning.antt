-- Results of the functions that make a plan.
use Rattle.std.specs.Prelude.{◌≡◌, ℕ, Bool, true, false, not, ◌&&◌, List, map, find, Option, Some, None, Result, Ok}
use Rattle.std.specs.Prelude.{Err, option_map, string_bytes, ◌<◌}
use Rattle.std.specs.List.{list_all, after_last}
use Rattle.cweb_store.specs.declared.name.NameId.{NameId}
use Rattle.cweb_store.specs.Calls.{Stored}
use Rattle.cweb_out.specs.Expansion.{cycle_from, list_ends, names}
use Rattle.cweb_out.specs.Outputs.{is_control, is_good_name, is_slash, names_no_file, output_name, output_of}
use Rattle.cweb_out.specs.Outputs.{root_list, start_of, Planned}
use Rattle.cweb_out.specs.declared.outputs.planned.Output.{Output}
use Rattle.cweb_out.specs.declared.outputs.fault.PlanFault.{PlanFault}
use Rattle.cweb_out.specs.declared.outputs.fault.PlanFault.TheVariants as fault
use Rattle.cweb_out.specs.Outputs as spec

-- An output is the main file or belongs to one of the names.
abbrev pub IsRoot : Stored → Option NameId → Type 0
IsRoot w None = Unit {0}
IsRoot w (Some n) = n.0 < names w

abbrev pub output_in : Output → spec.Output
output_in output = record { name = string_bytes output.name; root = output.root }

abbrev pub planned_of : List Output → Bool → Planned
planned_of outputs no_text = record { outputs = map output_in outputs; no_text = no_text }

-- The conditions of a good name beside UTF-8: no control byte, and the last path part names a file.
abbrev pub is_good_path : List ℕ → Bool
is_good_path name = list_all (λ b. not (is_control b)) name && not (names_no_file (after_last is_slash name))

abbrev pub is_bad : Stored → List ℕ → Option NameId → Bool
is_bad w main root = not (is_good_name (output_name w main root))

-- The named output, or the fault of its name.
abbrev pub NamesOne : Stored → List ℕ → Option NameId → Result Output PlanFault → Type 0
NamesOne w main root (Ok output) = (is_bad w main root ≡ false) × (output_in output ≡ output_of w main root)
NamesOne w main root (Err (fault.BadName other)) = (is_bad w main root ≡ true) × (other ≡ root)
NamesOne w main root (Err fault.Memory) = Unit {0}
NamesOne w main root (Err other) = ⊥

-- The outputs of roots, or the fault of the first name that no file can have.
abbrev pub NamesAll : Stored → List ℕ → List (Option NameId) → Result (List Output) PlanFault → Type 0
NamesAll w main roots (Ok outputs) = (find (is_bad w main) roots ≡ None)
    × (map output_in outputs ≡ map (output_of w main) roots)
NamesAll w main roots (Err (fault.BadName root)) = find (is_bad w main) roots ≡ Some root
NamesAll w main roots (Err fault.Memory) = Unit {0}
NamesAll w main roots (Err other) = ⊥

abbrev pub is_endless : Stored → Option NameId → Bool
is_endless w root = not (list_ends w (root_list w root))

-- The cycle of the first output whose expansion doesn't end.
abbrev pub first_cycle : Stored → List (Option NameId) → Option (List NameId)
first_cycle w roots = option_map (λ root. cycle_from w (start_of w root)) (find (is_endless w) roots)
