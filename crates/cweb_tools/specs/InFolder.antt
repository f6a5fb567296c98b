-- Runs in a folder.
use Rattle.std.specs.Prelude.{◌≡◌, ℕ, List, IsSome, All}
use Rattle.cweb_files.specs.Files.{File}
use Rattle.cweb_system.specs.declared.file_system.FileSystem.{Ghosts as FileSystem}
use Rattle.cweb_system.specs.Bins.{empty_bins, new_shelf}
use Rattle.cweb_system.specs.Tree.{Tree, contents}
use Rattle.cweb_tools.specs.DeviceModels.{Devices, FailedReads, failed_reads}
use Rattle.cweb_files.specs.Sinks.{SinkModel}

-- The devices before a run of `ctangle`: the files of a folder, and bins that have committed none.
abbrev pub devices_before : {F H : Type 0} → FileSystem F H → F → SinkModel → Devices
devices_before system fs log =
    record { shelf = failed_reads (new_shelf system fs); out = empty_bins system; log = log }

-- A run in a folder keeps these promises. If the file system is observable, no read failed.
pub record KeepsInFolder (Promises : Devices → Devices → ℕ → Type 0) (before : Devices) (out : SinkModel)
    (log : SinkModel) (status : ℕ) : Type 0 where
  pub shelf : FailedReads
  pub reads : IsSome before.shelf.blamed → shelf.failed ≡ before.shelf.failed
  pub promises : Promises before (record { shelf = shelf; out = out; log = log }) status

-- Each file has its bytes under its name.
abbrev pub AreIn : Tree → List File → Type 0
AreIn tree files = All (λ (file : File). contents tree file.name ≡ file.bytes) files
