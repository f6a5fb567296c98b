use Rattle.cweb_lines.proofs.Found.{IfOk-map}
use Rattle.cweb_scan.proofs.Common.{arith, reach, Open}
use Rattle.cweb_rules.specs.inner.LineItems.{look_of}
use Rattle.cweb_rules.proofs.Lasts.{reach-fits}
use Rattle.cweb_scan.proofs.FurtherLiterals.{none_valid}
use Rattle.cweb_scan.proofs.PlainBodies.{passes_as_one, whole_is}
use Rattle.cweb_scan.proofs.scanner.Scanner.pass_units.Goals as goal

pub split_at-requires : goal.split_at-requires
split_at-requires c = omega (arith, c.requires.size, reach-fits c.args.item c.args.inner.now)

pub pass_unit-requires : goal.pass_unit-requires
pass_unit-requires c = grind (arith, whole_is)

pub returns-then-skipped_len-whole : goal.returns-then-skipped_len-whole
returns-then-skipped_len-whole c =
    let whole = c.split_at.result.0.now in
    IfOk-map c.pass_unit.result (λ left passed. passes_as_one (reach (look_of c.args.item) Open c.args.inner.now).units
    whole _ _ _ _ (whole_is c.args.item c.args.inner.now whole c.args.size c.requires.size c.split_at.ensures.front)
    (none_valid whole (omega (arith, c.skipped_len.ensures.value, c.if-skipped_len-whole.true))) passed)
    c.pass_unit.ensures
