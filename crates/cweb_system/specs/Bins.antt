-- What bins and shelf over a file system have.
use Rattle.std.specs.Prelude.{ℕ, List, [], map, Option, Some, None, option_map, string_bytes}
use Rattle.cweb_files.specs.Files.{File}
use Rattle.cweb_files.specs.Shelves.{ShelfModel}
use Rattle.cweb_files.specs.Sinks.{SinkContents, SinkModel}
use Rattle.cweb_system.specs.declared.bins.Folder.{Folder}
use Rattle.cweb_system.specs.declared.drafts.path.Draft.{Draft}
use Rattle.cweb_system.specs.declared.file_system.FileSystem.{Ghosts as FileSystem}
use Rattle.cweb_system.specs.declared.folder_bins.FolderBins.{FolderBins}
use Rattle.cweb_system.specs.Tree.{FileKey, Tree, contents, rest}
use Rattle.cweb_system.specs.declared.written.WrittenFile.{WrittenFile}
use Rattle.cweb_system.specs.Steps.{keys_in, Disk}

-- A shelf over a file system that has counted no failure. No read of an observable file system fails.
abbrev pub new_shelf : {F H : Type 0} → FileSystem F H → F → ShelfModel H
new_shelf {F = F} system fs = record {
  failed = 0;
  contents = option_map (λ (see : F → Disk). record {
    texts = λ path. option_map (see fs).tree.bytes ((see fs).tree.target path);
    left = λ reader. rest (see fs).tree (system.key reader) (system.position reader);
    opened_as = system.opened_as;
    blamed = [];
  }) system.disk;
}

-- A committed file, as it is in the file system.
abbrev pub file_in : Tree → WrittenFile → File
file_in tree w = record { name = string_bytes w.name; bytes = contents tree (string_bytes w.name) }

abbrev pub draft_name : {H : Type 0} → Draft H → List ℕ
draft_name draft = string_bytes draft.name

abbrev pub draft_bytes : {H : Type 0} → Tree → Option (Draft H) → List ℕ
draft_bytes tree None = []
draft_bytes tree (Some draft) = tree.bytes draft.key

-- The draft's bytes and what is beside them.
abbrev pub folder_contents : {F H : Type 0} {system : FileSystem F H} → Tree → Folder F H system → SinkContents
folder_contents tree folder = record {
  bytes = draft_bytes tree folder.draft;
  beside = record {
    files = map (file_in tree) folder.files.written.items;
    draft = option_map draft_name folder.draft;
    refused = folder.refused;
  };
}

abbrev pub folder_model : {F H : Type 0} (system : FileSystem F H) → Folder F H system → SinkModel
folder_model {F = F} system folder = record {
  failed = folder.failed;
  contents = option_map (λ (see : F → Disk). folder_contents (see folder.fs).tree folder) system.disk;
}

abbrev pub bins_system : {F H : Type 0} {system : FileSystem F H} → FolderBins F H system → F
bins_system bins = bins.folder.fs

-- The files that no output replaces.
abbrev pub bins_read : {F H : Type 0} {system : FileSystem F H} → FolderBins F H system → List FileKey
bins_read bins = keys_in bins.folder.files.read

-- Bins that have committed no file.
abbrev pub empty_bins : {F H : Type 0} → FileSystem F H → SinkModel
empty_bins {F = F} system = record {
  failed = 0;
  contents = option_map (λ (see : F → Disk). record {
    bytes = [];
    beside = record { files = []; draft = None; refused = None };
  }) system.disk;
}

-- The bins as a sink.
abbrev pub bins_model : {F H : Type 0} (system : FileSystem F H) → FolderBins F H system → SinkModel
bins_model system bins = folder_model system bins.folder
