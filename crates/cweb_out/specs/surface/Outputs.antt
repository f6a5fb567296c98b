-- Plans by output number.
use Rattle.std.specs.Prelude.{ℕ, ◌≡◌, List, [], Option, None, Ok, slice_index_or, Result, Err}
use Rattle.cweb_store.specs.declared.name.NameId.{NameId}
use Rattle.cweb_store.specs.Calls.{Stored}
use Rattle.cweb_out.specs.Outputs.{outputs, Output, Planned, planned, Refusal, bad_name, same_name, cycle}
use Rattle.cweb_out.specs.declared.outputs.fault.PlanFault.{PlanFault}
use Rattle.cweb_out.specs.declared.outputs.fault.PlanFault.TheVariants as fault

-- An output by its number.
abbrev pub output_at : List Output → ℕ → Output
output_at outputs number = slice_index_or outputs number (record { name = []; root = None })

abbrev pub root_at : List Output → ℕ → Option NameId
root_at outputs number = (output_at outputs number).root

abbrev pub output_name_at : List Output → ℕ → List ℕ
output_name_at outputs number = (output_at outputs number).name

-- The plan of a store for some main file.
abbrev pub IsPlanOf : Stored → Planned → Type 0
IsPlanOf w p = (main : List ℕ) × (planned w main ≡ Ok p)

-- A fault is the expected refusal. `Memory` may come at any point.
abbrev pub IsExpectedFault : {A : Type 0} → Result A Refusal → PlanFault → Type 0
IsExpectedFault expected (fault.Cycle names) = expected ≡ Err (cycle names.items)
IsExpectedFault expected (fault.SameName n) = expected ≡ Err (same_name n)
IsExpectedFault expected (fault.BadName output) = expected ≡ Err (bad_name output)
IsExpectedFault expected fault.Memory = Unit {0}

-- The result is the expected plan or fault.
abbrev pub IsExpectedPlan : Result Planned Refusal → Result Planned PlanFault → Type 0
IsExpectedPlan expected (Ok plan) = expected ≡ Ok plan
IsExpectedPlan expected (Err fault) = IsExpectedFault expected fault
