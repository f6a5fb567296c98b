-- The names of opened files, the folder of included files, and single lines.
use Rattle.std.specs.Prelude.{ℕ, List, map, string_bytes, Option, None, Some, String, ◌≢◌, ◌≤◌, [], ◌∷◌, length}
use Rattle.std.specs.List.{AllByRecursion}
use Rattle.cweb_lines.specs.declared.files.FileNames.{FileNames}
use Rattle.cweb_lines.specs.Include.{World}
use Rattle.cweb_lines.specs.declared.limits.TheConstants.{LINE_LENGTH}

-- The model of the names of opened files.
abbrev pub opened_file_names : FileNames → List (List ℕ)
opened_file_names files = map (λ name. string_bytes name) files.names.items

-- The bytes of a string, if there is one.
abbrev pub optional_string_bytes : {Z : Type 0} → Option (String Z) → Option (List ℕ)
optional_string_bytes None = None
optional_string_bytes (Some folder) = Some (string_bytes folder)

abbrev pub world_in : {Z : Type 0} → (List ℕ → Option (List ℕ)) → Option (String Z) → World
world_in texts inputs = record { texts = texts; inputs = optional_string_bytes inputs }

-- Lines without newline.
abbrev pub HasNoNewline : List ℕ → Type 0
HasNoNewline bytes = AllByRecursion (λ b. b ≢ 10) bytes

-- A line that was taken: it has no newline and is within the maximum length.
pub record IsOneLine (bytes : List ℕ) : Type 0 where
  pub clean : HasNoNewline bytes
  pub short : length bytes ≤ LINE_LENGTH
