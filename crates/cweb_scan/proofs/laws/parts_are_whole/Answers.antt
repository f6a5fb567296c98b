use Rattle.cweb_scan.proofs.WholeParts.{parts_are_whole}
use Rattle.cweb_scan.proofs.laws.parts_are_whole.Goals as goal

pub returns : goal.returns
returns c = parts_are_whole
