use Rattle.cweb_scan.proofs.Gaps.{one_more}
use Rattle.cweb_scan.proofs.laws.blanks_change_nothing.Goals as goal

pub returns : goal.returns
returns c = one_more
