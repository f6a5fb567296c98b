-- The files of bins.
use Rattle.std.specs.Prelude.{ℕ, not, List, [], ◌∷◌, ◌++◌, Option, Some, None, filter}
use Rattle.std.specs.Str.{bytes_eq}

-- A file: its name and contents, both as bytes.
pub record File : Type 0 where
  pub name : List ℕ
  pub bytes : List ℕ

-- The files without the one of this name.
abbrev pub without : List ℕ → List File → List File
without name files = filter (λ file. not (bytes_eq file.name name)) files

-- Appends a file and removes an earlier one of its name.
abbrev pub put_file : List File → File → List File
put_file files file = without file.name files ++ file ∷ []

-- The files after a draft of this name, if any, is committed with these bytes.
abbrev pub with_bytes : List File → Option (List ℕ) → List ℕ → List File
with_bytes files None bytes = files
with_bytes files (Some name) bytes = put_file files (record { name = name; bytes = bytes })
