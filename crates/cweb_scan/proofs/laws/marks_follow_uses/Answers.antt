use Rattle.cweb_scan.proofs.MarkedUses.{marks_follow_uses}
use Rattle.cweb_scan.proofs.laws.marks_follow_uses.Goals as goal

pub returns : goal.returns
returns c = marks_follow_uses
