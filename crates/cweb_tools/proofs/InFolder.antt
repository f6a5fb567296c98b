-- What a run in a folder leaves there.
use Rattle.cweb_tools.proofs.Common.{◌≡◌, refl, subst, ℕ, Some, List, [], ◌∷◌, map, Option, None, IsSome, World, OptionsModel, TangleCourse, IsTangleCourse, RanFreely, All-nil, File, Devices, SinkContents, SinkModel, at, world_of, script, shown_by, TanglePromises, written_files, arith}
use Rattle.cweb_files.specs.Files.{put_file}
use Rattle.cweb_files.specs.Shelves.{ShelfModel}
use Rattle.cweb_tools.specs.DeviceModels.{contents_of, failed_reads}
use Rattle.std.specs.Prelude.{fold, option_map}
use Rattle.cweb_system.specs.declared.written.WrittenFile.{WrittenFile}
use Rattle.cweb_system.specs.declared.file_system.FileSystem.{Ghosts as FileSystem}
use Rattle.cweb_system.specs.declared.folder_bins.FolderBins.{FolderBins}
use Rattle.cweb_system.specs.declared.shelf.FolderShelf.{FolderShelf}
use Rattle.cweb_system.specs.Bins.{bins_model, bins_system, empty_bins, file_in, folder_contents, new_shelf}
use Rattle.cweb_system.specs.inner.FolderCalls.{shelf_model}
use Rattle.cweb_system.specs.Steps.{Disk, OnDisk, view}
use Rattle.cweb_system.specs.Tree.{Tree, contents}
use Rattle.cweb_tools.specs.InFolder.{AreIn, KeepsInFolder, devices_before}
use Rattle.cweb_tools.proofs.TanglePromisesProved.{tangled_freely}

-- What can be read through a shelf.
abbrev pub world_of_shelf : {R : Type 0} → ShelfModel R → Option (List ℕ) → World
world_of_shelf shelf inputs = world_of (contents_of shelf).texts inputs

all_in : (tree : Tree) (written : List WrittenFile) → AreIn tree (map (file_in tree) written)
all_in tree [] = All-nil (λ (file : File). contents tree file.name ≡ file.bytes)
all_in tree (w ∷ written) = grind (arith, all_in tree written)

-- The files of the course are in the folder, if nothing failed.
pub left_in_folder : {F H : Type 0} (system : FileSystem F H) (fs : F) (bins : FolderBins F H system) (world : World)
    (args : Option OptionsModel) (log log' : SinkModel) (status : ℕ)
    → KeepsInFolder (TanglePromises world args) (devices_before system fs log) (bins_model system bins) log' status
    → OnDisk system.disk (λ see. (course : TangleCourse) → IsTangleCourse world args course
    → RanFreely (script (shown_by args) course) (devices_before system fs log)
    (record { shelf = (devices_before system fs log).shelf; out = bins_model system bins; log = log' })
    → AreIn (see (bins_system bins)).tree (fold put_file [] (written_files (script (shown_by args) course))))
left_in_folder {F = F} system fs bins world args log log' status run some course is free =
    let known : IsSome (devices_before system fs log).shelf.blamed = mapped system.disk _ _ some in
    let tree = (view system.disk (bins_system bins)).tree in
    let done = tangled_freely world args run.promises known course is (record {
      shelf = run.reads known;
      out = free.out;
      log = free.log;
      within = free.within;
      memory = free.memory;
    }) in
    subst (λ (files : List File). AreIn tree files)
    (files_from system.disk (λ (see : F → Disk). folder_contents (see (bins_system bins)).tree bins.folder)
    (written_files (script (shown_by args) course)) some done.files)
    (all_in tree bins.folder.files.written.items)
  where
    mapped : {A B C : Type 0} (o : Option A) (f : A → B) (g : B → C) → IsSome o → IsSome (option_map g (option_map f o))
    mapped (Some x) f g some = refl
    mapped None f g some = absurd (cc)

    files_from : (disk : Option (F → Disk)) (now : (F → Disk) → SinkContents) (files : List File) → IsSome disk
        → option_map (λ (now : SinkContents). now.beside.files) (option_map now disk)
        ≡ option_map (λ (old : List File). fold put_file old files)
        (option_map (λ (now : SinkContents). now.beside.files) (option_map (λ (see : F → Disk).
        record { bytes = []; beside = record { files = []; draft = None; refused = None } }) disk))
        → (now (view disk)).beside.files ≡ fold put_file [] files
    files_from (Some see) now files some is = cc
    files_from None now files some is = absurd (cc)

-- A run over a new shelf runs in the folder.
pub runs_in : {F H : Type 0} (system : FileSystem F H) (fs : F) (Promises : World → Devices → Devices → ℕ → Type 0)
    (inputs : Option (List ℕ)) (shelf shelf' : FolderShelf F H system) (out out' : SinkModel) (log log' : SinkModel)
    (status : ℕ) → shelf_model system shelf ≡ new_shelf system fs
    → Promises (world_of_shelf (shelf_model system shelf) inputs)
    (at (failed_reads (shelf_model system shelf)) out log)
    (at (failed_reads (shelf_model system shelf')) out' log') status
    → KeepsInFolder (Promises (world_of_shelf (new_shelf system fs) inputs))
    (at (failed_reads (new_shelf system fs)) out log) out' log' status
runs_in {H = H} system fs Promises inputs shelf shelf' out out' log log' status same run = grind arith

-- A run of `ctangle` in a folder, with any bins at first.
abbrev pub TanglesIn : {F H : Type 0} → FileSystem F H → F → Option (List ℕ) → Option OptionsModel → SinkModel
    → SinkModel → SinkModel → SinkModel → ℕ → Type 0
TanglesIn system fs inputs args first log out log' status =
    KeepsInFolder (TanglePromises (world_of_shelf (new_shelf system fs) inputs) args)
    (at (failed_reads (new_shelf system fs)) first log) out log' status

-- A run of `ctangle` over a new shelf, whose bins take over the file system from the shelf.
pub tangles_in : {F H : Type 0} (system : FileSystem F H) (fs : F) (inputs : Option (List ℕ))
    (args : Option OptionsModel) (shelf shelf' : FolderShelf F H system) (bins : FolderBins F H system)
    (out log log' : SinkModel) (status : ℕ)
    → shelf_model system shelf ≡ new_shelf system fs → bins_model system bins ≡ empty_bins system
    → TanglePromises (world_of_shelf (shelf_model system shelf) inputs) args
    (at (failed_reads (shelf_model system shelf)) (bins_model system bins) log)
    (at (failed_reads (shelf_model system shelf')) out log') status
    → TanglesIn system fs inputs args (devices_before system fs log).out log out log' status
tangles_in system fs inputs args shelf shelf' bins out log log' status same empty run =
    subst (λ (m : SinkModel). TanglesIn system fs inputs args m log out log' status) empty
    (runs_in system fs (λ world. TanglePromises world args) inputs shelf shelf' (bins_model system bins) out log log'
    status same run)
