use Rattle.cweb_rules.proofs.Common.{List, ℕ, ◌++◌, sym, ap, ◌∙◌, append_assoc, reach, unit_bytes, unescaped, look_of, Open}
use Rattle.cweb_rules.proofs.Walks.{nonempty, units_from}
use Rattle.cweb_rules.proofs.units.push_units.Goals as goal

pub units-preserved : goal.units-preserved
units-preserved c =
    let look = look_of c.args.item in
    let rest = c.units.rest.now in
    let unit = c.split_at.result.0.now in
    let after = c.split_at.result.1.now in
    let on = units_from look Open c.in-Goes.size c.min.result rest unit after (sym c.look.ensures.value
    ∙ c.in-Goes.is) c.in-Goes.ensures.some (nonempty rest c.is_empty.result c.is_empty.ensures c.units-test.true)
    c.min.ensures c.split_at.ensures.front c.split_at.ensures.back in
    ap (λ (x : List ℕ). x ++ unescaped (reach look Open after).units) c.in_ok-push_unit.ensures
    ∙ append_assoc c.units.text.items (unit_bytes unit) (unescaped (reach look Open after).units)
    ∙ ap (λ (us : List (List ℕ)). c.units.text.items ++ unescaped us) (sym on)
    ∙ c.units.invariant
