-- The outputs of a web, their names, and the reasons to refuse them.
use Rattle.std.specs.Prelude.{ℕ, Bool, not, ◌&&◌, ◌||◌, ◌==◌, nat_lt, List, [], ◌∷◌, ◌++◌, map, filter, find, codes}
use Rattle.std.specs.Prelude.{bytes_eq, length, Option, Some, None, Result, Ok, Err, slice_index_or, if◌then◌else◌}
use Rattle.std.specs.List.{list_all, list_any, after_last}
use Rattle.std.specs.Option.{option_map_or, option_or}
use Rattle.std.specs.Str.{is_utf8}
use Rattle.cweb_store.specs.declared.name.NameId.{NameId}
use Rattle.cweb_store.specs.Names as spec
use Rattle.cweb_store.specs.Parts.{Token, Defs, has_defs_code, is_unnamed}
use Rattle.cweb_store.specs.Parts as parts
use Rattle.cweb_store.specs.Faults.{has_part}
use Rattle.cweb_store.specs.Calls.{Stored}
use Rattle.cweb_out.specs.Expansion.{program, joined, list_ends, first_endless, cycle_from}

-- The file names that have a part, in order of their first occurrence as a file's.
abbrev pub file_outputs : Stored → List NameId
file_outputs w = filter (has_part (spec.resolutions w.occurrences) w.parts) (spec.files w.occurrences)

-- The outputs: the main file as `None`, then a file for each file name that has a part.
abbrev pub outputs : Stored → List (Option NameId)
outputs w = None ∷ map Some (file_outputs w)

-- The unexpanded tokens of an output. The macro definitions come first in the main file, unless a C part places them
-- with `@h`.
abbrev pub root_list : Stored → Option NameId → List Token
root_list w None = (if not (has_defs_code w.parts) then Defs ∷ [] else []) ++ program w
root_list w (Some n) = joined w n

-- The bytes of a name.
abbrev pub name_spelling : Stored → NameId → List ℕ
name_spelling w n = slice_index_or (spec.spellings (spec.names w.occurrences)) n.0 []

-- The file name of an output.
abbrev pub output_name : Stored → List ℕ → Option NameId → List ℕ
output_name w main output = option_map_or (name_spelling w) output main

-- The byte is `/`.
abbrev pub is_slash : ℕ → Bool
is_slash b = b == 47

-- A control byte of ASCII.
abbrev pub is_control : ℕ → Bool
is_control b = nat_lt b 32 || b == 127

-- Last path parts that name no file.
abbrev pub names_no_file : List ℕ → Bool
names_no_file part = bytes_eq part [] || bytes_eq part (codes ".") || bytes_eq part (codes "..")

-- A name that a file can have: UTF-8 without control bytes, and its last path part names a file.
abbrev pub is_good_name : List ℕ → Bool
is_good_name name = is_utf8 name && list_all (λ b. not (is_control b)) name && not
    (names_no_file (after_last is_slash name))

-- An output of a plan: its file name, and the name whose list it is. `None` is the main file.
pub record Output : Type 0 where
  pub name : List ℕ
  pub root : Option NameId

-- A plan: the outputs, and whether there is no program.
pub record Planned : Type 0 where
  pub outputs : List Output
  pub no_text : Bool

-- Why nothing is written.
pub data Refusal : Type 0 where
  bad_name : (output : Option NameId) → Refusal
  same_name : (name : NameId) → Refusal
  cycle : (names : List NameId) → Refusal

-- An output with its file name.
abbrev pub output_of : Stored → List ℕ → Option NameId → Output
output_of w main root = record { name = output_name w main root; root = root }

-- There is no unnamed part and no output but the main file.
abbrev pub has_no_program : Stored → Bool
has_no_program w = not (list_any (λ (p : parts.Part). is_unnamed p.kind) w.parts) && length (file_outputs w) == 0

-- The walk begins at the file's own name, or at the first name without a rank that the program uses.
abbrev pub start_of : Stored → Option NameId → Option NameId
start_of w output = option_or output (first_endless w (program w))

-- The first output whose expansion doesn't end is refused with its cycle.
abbrev pub planned_ending : Stored → List ℕ → Result Planned Refusal
planned_ending w main = elim (find (λ o. not (list_ends w (root_list w o))) (outputs w)) [
  | Some o ↦ Err (cycle (cycle_from w (start_of w o)))
  | None ↦ Ok (record { outputs = map (output_of w main) (outputs w); no_text = has_no_program w })
]

-- Before that, a file name that equals the main file's is refused.
abbrev pub planned_apart : Stored → List ℕ → Result Planned Refusal
planned_apart w main = elim (find (λ n. bytes_eq (name_spelling w n) main) (spec.files w.occurrences)) [
  | Some n ↦ Err (same_name n)
  | None ↦ planned_ending w main
]

-- First of all, an output whose name no file can have is refused.
abbrev pub planned : Stored → List ℕ → Result Planned Refusal
planned w main = elim (find (λ o. not (is_good_name (output_name w main o))) (outputs w)) [
  | Some o ↦ Err (bad_name o)
  | None ↦ planned_apart w main
]
