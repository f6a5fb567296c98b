-- The headline theorem of the programs: if no device and no allocation fails and the web is within the limits, a run
-- does all acts of its course.
use Rattle.std.specs.Prelude.{fold, ◌≡◌, ◌≢◌, ℕ, Bool, true, false, List, [], ◌∷◌, ◌++◌, IsSome, IsTrue, Option, option_map}
use Rattle.std.specs.List.{flat_map}
use Rattle.cweb_files.specs.Files.{File, put_file}
use Rattle.cweb_lines.specs.Events.{emitted_lines, written_lines}
use Rattle.cweb_lines.specs.declared.stop.Stop.TheVariants.{Memory}
use Rattle.cweb_tools.specs.Items.{line, stop_line}
use Rattle.cweb_tools.specs.DeviceModels.{Devices}
use Rattle.cweb_files.specs.Sinks.{SinkContents, SinkModel, appended, written}
use Rattle.cweb_tools.specs.Acts.{Act, says, merges, prints, writes, ActKeepsLimits, acts_status, logged_items}

-- The files that acts write.
abbrev pub written_files : List Act → List File
written_files [] = []
written_files (writes name text ∷ acts) = record { name = name; bytes = text } ∷ written_files acts
written_files (_ ∷ acts) = written_files acts

-- The bytes that acts print.
abbrev pub printed_bytes : List Act → List ℕ
printed_bytes [] = []
printed_bytes (merges names events ∷ acts) = written_lines (emitted_lines events) ++ printed_bytes acts
printed_bytes (prints text ∷ acts) = text ++ printed_bytes acts
printed_bytes (_ ∷ acts) = printed_bytes acts

-- No line that the acts take breaks a limit.
abbrev pub ActsKeepLimits : List Act → Type 0
ActsKeepLimits [] = Unit {0}
ActsKeepLimits (act ∷ acts) = ActKeepsLimits act × ActsKeepLimits acts

-- Any act but logging a line and printing a text may need memory.
abbrev pub needs_memory : Act → Bool
needs_memory (says item) = false
needs_memory (prints text) = false
needs_memory _ = true

-- No device failed, the limits were kept, and the log, whose bytes are known, doesn't say that memory ran out within an
-- act.
pub record RanFreely (acts : List Act) (before after : Devices) : Type 0 where
  pub shelf : after.shelf.failed ≡ before.shelf.failed
  pub out : after.out.failed ≡ before.out.failed
  pub log : after.log.failed ≡ before.log.failed
  pub within : ActsKeepLimits acts
  pub memory : (done later : List Act) (act : Act) → acts ≡ done ++ act ∷ later → IsTrue (needs_memory act)
      → after.log.contents ≢ appended (flat_map line (logged_items done) ++ stop_line Memory []) before.log.contents

-- The files of an output.
abbrev pub files_in : SinkModel → Option (List File)
files_in out = option_map (λ (contents : SinkContents). contents.beside.files) out.contents

-- All acts were done, and the status is theirs.
pub record DoesActs (acts : List Act) (before after : Devices) (status : ℕ) : Type 0 where
  pub files : files_in after.out
      ≡ option_map (λ (files : List File). fold put_file files (written_files acts)) (files_in before.out)
  -- An open output gets the printed bytes, if no file is written.
  pub printed : written_files acts ≡ [] → after.out ≡ written (printed_bytes acts) before.out
  pub logged : after.log.contents ≡ appended (flat_map line (logged_items acts)) before.log.contents
  pub answered : status ≡ acts_status acts

-- Over an observable shelf, a run that ran freely did all acts of its course.
abbrev pub DoesActsFreely : {Course : Type 0} → (Course → List Act) → (Course → Type 0) → Devices → Devices → ℕ → Type 0
DoesActsFreely {Course} acts Is before after status = IsSome before.shelf.blamed
    → (course : Course) → Is course → RanFreely (acts course) before after
    → DoesActs (acts course) before after status
