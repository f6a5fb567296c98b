use Rattle.cweb_scan.proofs.Common.{sym, ◌∙◌, length, Open, eqb-true}
use Rattle.cweb_rules.specs.inner.LineItems.{look_of}
use Rattle.cweb_rules.proofs.Walks.{nonempty, units_from}
use Rattle.cweb_scan.proofs.QuotedItems.{passes_first, passes_last, no_units, ended_units}
use Rattle.cweb_scan.proofs.scanner.Scanner.pass_each_unit.Goals as goal

pub units-preserved : goal.units-preserved
units-preserved c =
    let look = look_of c.args.item in
    let rest = c.units.rest.now in
    let on = units_from look Open c.in-Goes.size c.min.result rest c.split_at.result.0.now c.split_at.result.1.now
    (sym c.look.ensures.value ∙ c.in-Goes.is) c.in-Goes.ensures.some
    (nonempty rest c.is_empty.result c.is_empty.ensures c.units-test.true) c.min.ensures
    c.split_at.ensures.front c.split_at.ensures.back in
    passes_first _ _ _ _ _ _ _ _ _ _ on c.units.invariant c.in_ok-left.ensures

pub returns-in_default : goal.returns-in_default
returns-in_default c =
    passes_last _ _ _ _ _ _ (ended_units (look_of c.args.item) c.units.rest.now c.look.result c.look.ensures.value
    c.in_default.not-Goes) c.units.invariant

pub returns : goal.returns
returns c =
    passes_last _ _ _ _ _ _ (no_units (look_of c.args.item) c.units.rest.now
    (eqb-true (length c.units.rest.now) 0 (sym c.is_empty.ensures ∙ c.units-test.false))) c.units.invariant
