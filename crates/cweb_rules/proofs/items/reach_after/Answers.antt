use Rattle.cweb_rules.proofs.Common.{◌+◌, ℕ, List, drop, ap, sym, ◌∙◌, arith, common_steps, reach, look_of, reached, Open, Reached}
use Rattle.cweb_rules.proofs.Lasts.{reach-fits}
use Rattle.cweb_rules.proofs.PlainSpans.{reach_from}
use Rattle.cweb_rules.proofs.Ranges.{later_by, later_by-add, reach_goes}
use Rattle.cweb_rules.proofs.Walks.{nonempty}
use Rattle.cweb_rules.proofs.items.reach_after.Goals as goal

pub units-init : goal.units-init
units-init c = record {
  within = omega (arith, c.split_at.ensures.back_len, c.requires.within);
  so_far = reach_from c.args.item Open c.args.text.now c.split_at.result.1.now c.args.plain c.requires.value
      c.split_at.ensures.back;
}

pub units-preserved : goal.units-preserved
units-preserved c =
    let look = look_of c.args.item in
    let rest = c.units.rest.now in
    let size = c.units.size in
    let step = c.min-step.result in
    let after = c.split_at-in-Goes.result.1.now in
    let plain = c.plain_len-plain.result in
    let left = reached (reach look Open c.split_at-in-Goes-2.result.1.now) in
    record {
      within = omega (
        arith,
        c.units.invariant.within,
        c.split_at-in-Goes.ensures.back_len,
        c.split_at-in-Goes-2.ensures.back_len,
        c.plain_len-plain.ensures.within,
        c.min-step.ensures,
      );
      so_far = c.units.invariant.so_far
          ∙ ap (λ (r : Reached). later_by size r)
          (reach_goes look Open c.in-Goes.unit rest
          (nonempty rest c.is_empty.result c.is_empty.ensures c.units-test.true) c.in-Goes.ensures.some
          (sym c.look.ensures.value ∙ c.in-Goes.is)
          ∙ (λ i. later_by (sym c.min-step.ensures i) (reached (reach look Open (drop
          (sym c.min-step.ensures i) rest))))
          ∙ ap (λ (u : List ℕ). later_by step (reached (reach look Open u))) (sym c.split_at-in-Goes.ensures.back)
          ∙ ap (λ (r : Reached). later_by step r) (reach_from c.args.item Open after _ plain
          c.plain_len-plain.ensures.value c.split_at-in-Goes-2.ensures.back)
          ∙ later_by-add step plain left)
          ∙ later_by-add size (step + plain) left;
    }

pub returns-in-Ends-clause-within : goal.returns-in-Ends-clause-within
returns-in-Ends-clause-within c = grind (arith, common_steps, reach-fits c.args.item c.args.text.now)
