use Rattle.cweb_scan.proofs.Common.{arith}
use Rattle.cweb_rules.proofs.Lasts.{reach-fits}
use Rattle.cweb_scan.proofs.FurtherLiterals.{none_valid, text_stays}
use Rattle.cweb_scan.proofs.PlainBodies.{whole_is}
use Rattle.cweb_scan.proofs.scanner.literals.push_body.Goals as goal

pub split_at-requires : goal.split_at-requires
split_at-requires c = omega (arith, c.requires, reach-fits c.args.item c.args.inner.now)

pub returns-then-skipped_len-whole : goal.returns-then-skipped_len-whole
returns-then-skipped_len-whole c = grind (arith, whole_is, none_valid, text_stays)
