use Rattle.cweb_scan.proofs.Bounds.{bounded}
use Rattle.cweb_scan.proofs.laws.store_is_bounded.Goals as goal

pub returns : goal.returns
returns c = bounded
