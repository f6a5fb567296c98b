-- A shelf over a file system, and what calls of bins over one leave.
use Rattle.std.specs.Prelude.{◌≡◌, List}
use Rattle.cweb_system.specs.declared.bins.Folder.{Folder}
use Rattle.cweb_system.specs.declared.file_system.FileSystem.{Ghosts as FileSystem}
use Rattle.cweb_system.specs.Steps.{keys_in}
use Rattle.cweb_system.specs.inner.Drafts.{KeepsDecent}
use Rattle.cweb_files.specs.Shelves.{ShelfModel}
use Rattle.cweb_system.specs.declared.node.FileKey.{FileKey}
use Rattle.cweb_system.specs.declared.shelf.FolderShelf.{FolderShelf}
use Rattle.cweb_system.specs.Bins.{new_shelf}

-- The steps are decent, and no file was read.
pub record KeepsFolder {F H : Type 0} (system : FileSystem F H) (old new : Folder F H system) : Type 0 where
  pub read : new.files.read ≡ old.files.read
  pub decent : KeepsDecent system.disk (keys_in old.files.read) old.fs new.fs

-- A shelf over a file system.
abbrev pub shelf_system : {F H : Type 0} {system : FileSystem F H} → FolderShelf F H system → F
shelf_system shelf = shelf.fs

-- The files that were opened.
abbrev pub shelf_read : {F H : Type 0} {system : FileSystem F H} → FolderShelf F H system → List FileKey
shelf_read shelf = keys_in shelf.read

abbrev pub shelf_model : {F H : Type 0} (system : FileSystem F H) → FolderShelf F H system → ShelfModel H
shelf_model system shelf = record { failed = shelf.failed; contents = (new_shelf system shelf.fs).contents }
