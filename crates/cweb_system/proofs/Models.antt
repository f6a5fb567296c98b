-- The model of bins after a call that changes what is seen of them.
use Rattle.std.proofs.Common.{arith}
use Rattle.std.proofs.Common.{◌≡◌, ℕ, List, refl, Option, Some}
use Rattle.std.specs.Prelude.{option_map}
use Rattle.cweb_files.specs.Bins.{refused}
use Rattle.cweb_files.specs.Files.{File}
use Rattle.cweb_files.specs.Sinks.{SinkContents, SinkModel, changed, failing, without_draft, without_file}
use Rattle.cweb_files.specs.declared.bins.BinFault.{BinFault}
use Rattle.cweb_files.specs.declared.bins.BinFault.TheVariants.{Memory, Device}
use Rattle.cweb_system.specs.Bins.{draft_bytes, draft_name}
use Rattle.cweb_system.specs.declared.drafts.path.Draft.{Draft}
use Rattle.cweb_system.specs.Steps.{Disk, OnDisk}
use Rattle.cweb_system.specs.Tree.{Tree}

-- What bins have, from the committed files, the draft and the last refusal.
abbrev pub bins_contents : {H : Type 0} → Tree → List File → Option (Draft H) → Option BinFault → SinkContents
bins_contents tree files draft why = record {
  bytes = draft_bytes tree draft;
  beside = record { files = files; draft = option_map draft_name draft; refused = why };
}

abbrev pub as_model : ℕ → Option SinkContents → SinkModel
as_model failed contents = record { failed = failed; contents = contents }

pub model_is : {F : Type 0} (disk : Option (F → Disk)) (old new : (F → Disk) → SinkContents)
    (change : SinkContents → SinkContents) {failed count : ℕ} → failed ≡ count
    → OnDisk disk (λ see. new see ≡ change (old see))
    → as_model failed (option_map new disk) ≡ as_model count (option_map change (option_map old disk))
model_is {F = F} disk old new change counts is = grind arith

-- A draft was discarded first. The change doesn't depend on that.
pub after_discard : {F : Type 0} (disk : Option (F → Disk)) (old mid new : (F → Disk) → SinkContents)
    (change : SinkContents → SinkContents) {before between failed count : ℕ}
    → ((now : SinkContents) → change (without_draft now) ≡ change now)
    → as_model between (option_map mid disk) ≡ changed without_draft (as_model before (option_map old disk))
    → failed ≡ count → OnDisk disk (λ see. new see ≡ change (mid see))
    → as_model failed (option_map new disk) ≡ as_model count (option_map change (option_map old disk))
after_discard disk old mid new change {count = count} same gone counts is = grind (arith, model_is)

-- A refused draft, by the fault.
pub refused_device : (fault : BinFault) (bins : SinkModel) → fault ≡ Device
    → failing (without_file (Some fault)) bins ≡ refused fault bins
refused_device Device bins is = refl
refused_device Memory bins is = absurd (cc)

pub refused_memory : (fault : BinFault) (bins : SinkModel) → (fault ≡ Device → ⊥)
    → changed (without_file (Some fault)) bins ≡ refused fault bins
refused_memory Memory bins apart = refl
refused_memory Device bins apart = absurd (apart refl)
