-- What is known of the devices of a run. The contents of a device are known if it is observable, which never changes.
use Rattle.std.specs.Prelude.{◌≡◌, ℕ, ◌+◌, ◌^◌, ◌<◌, List, [], Option, None, option_map, unwrap_or}
use Rattle.cweb_files.specs.Shelves.{ShelfContents, ShelfModel}
use Rattle.cweb_files.specs.Sinks.{FailsWithin, SinkModel, written}
use Rattle.cweb_files.specs.declared.device.Shelf.{Ghosts as Shelf}
use Rattle.cweb_files.specs.declared.device.Sink.{Ghosts as Sink}

-- The failed reads of a shelf: their number, and the names of the files whose reads failed.
pub record FailedReads : Type 0 where
  pub failed : ℕ
  pub blamed : Option (List (List ℕ))

-- The devices of a run. `out` are the bins for `ctangle`, and standard output for `wmerge` and `wdep`.
pub record Devices : Type 0 where
  pub shelf : FailedReads
  pub out : SinkModel
  pub log : SinkModel

abbrev pub failed_reads : {R : Type 0} → ShelfModel R → FailedReads
failed_reads shelf =
    record { failed = shelf.failed; blamed = option_map (λ now. now.blamed) shelf.contents }

-- The contents of a shelf, or those of an empty shelf if they are not observable.
abbrev pub contents_of : {R : Type 0} → ShelfModel R → ShelfContents R
contents_of shelf = unwrap_or shelf.contents
    (record { texts = λ name. None; left = λ reader. []; opened_as = λ reader. []; blamed = [] })

abbrev pub devices : {S R W L : Type 0} → Shelf S R → Sink W → Sink L → S → W → L → Devices
devices shelf out log s w l = record { shelf = failed_reads (shelf.model s); out = out.model w; log = log.model l }

-- The text was logged, or the log failed within it.
pub data Logs (text : List ℕ) (old new : SinkModel) : Type 0 where
  logged : new ≡ written text old → Logs text old new
  log_failed : FailsWithin text old new → Logs text old new

-- The failure count of each device has room for one more failure.
pub record CountsFit (seen : Devices) : Type 0 where
  pub shelf : seen.shelf.failed + 1 < 2 ^ 64
  pub out : seen.out.failed + 1 < 2 ^ 64
  pub log : seen.log.failed + 1 < 2 ^ 64
