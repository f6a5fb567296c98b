-- Committing a draft to a `Vec` of files is `put_file` on the model.
use Rattle.std.proofs.Common.{arith}
use Rattle.std.proofs.Common.{◌≡◌, ℕ, not, List, [], ◌∷◌, ◌++◌, refl, ◌∙◌, ap, map, string_bytes}
use Rattle.std.proofs.lemmas.List.{map-append}
use Rattle.std.specs.Prelude.{filter}
use Rattle.cweb_files.specs.Files.{File, without, put_file}
use Rattle.cweb_files.specs.declared.bins.memory.BinFile.{BinFile}
use Rattle.cweb_files.specs.surface.MemoryDevices.{as_file}
use Rattle.std.specs.Str.{bytes_eq}

others : (name : List ℕ) (files : List BinFile) → map as_file
    (filter (λ (f : BinFile). not (bytes_eq (string_bytes f.name) name)) files) ≡ without name (map as_file files)
others name [] = refl
others name (file ∷ files) = grind (arith, others name files)

pub commits : (files left new : List BinFile) (file : BinFile)
    → left ≡ filter (λ (f : BinFile). not (bytes_eq (string_bytes f.name) (string_bytes file.name))) files
    → new ≡ left ++ file ∷ [] → map as_file new ≡ put_file (map as_file files) (as_file file)
commits files left new file rest is =
    ap (map as_file) is ∙ map-append as_file left (file ∷ [])
    ∙ ap (λ (fs : List File). fs ++ as_file file ∷ []) (ap (map as_file) rest ∙ others (string_bytes file.name) files)
