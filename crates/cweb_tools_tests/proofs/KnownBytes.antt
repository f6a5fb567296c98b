-- Known contents of devices.
use Rattle.std.proofs.Common.{◌≡◌, ◌≢◌, ℕ, List, [], ◌++◌, ap, Option, Some, None}
use Rattle.cweb_tools.proofs.Common.{SinkContents, SinkModel, appended}

pub value : {A : Type 0} {x y : A} → Some x ≡ Some y → x ≡ y
value is = cc

-- The bytes of a device.
pub bytes_of : {now old : SinkContents} → Some now ≡ Some old → now.bytes ≡ old.bytes
bytes_of same = ap (λ (contents : SinkContents). contents.bytes) (value same)

pub ends_not : {contents : SinkContents} {last : List ℕ} → ((first : List ℕ) → contents.bytes ≢ first ++ last)
    → (first : Option SinkContents) → Some contents ≢ appended last first
ends_not never None same = cc
ends_not never (Some first) same = never first.bytes (bytes_of same)

abbrev output_bytes : Option SinkContents → List ℕ
output_bytes None = []
output_bytes (Some contents) = contents.bytes

pub printed : {old new : SinkModel} → new ≡ old → output_bytes new.contents ≡ output_bytes old.contents
printed same = ap (λ (out : SinkModel). output_bytes out.contents) same
