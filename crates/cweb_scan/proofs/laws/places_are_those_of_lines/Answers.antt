use Rattle.cweb_scan.proofs.Places.{scanned-pass}
use Rattle.cweb_scan.proofs.laws.places_are_those_of_lines.Goals as goal

pub returns : goal.returns
returns c = scanned-pass
