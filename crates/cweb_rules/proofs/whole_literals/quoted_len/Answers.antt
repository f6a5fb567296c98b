use Rattle.cweb_rules.proofs.Common.{◌≡◌, ◌<◌, ◌+◌, ◌-◌, length, ap, sym, ◌∙◌, arith, look_in_literal, reach, reached, Literal, Open, Closed, Reached}
use Rattle.cweb_rules.proofs.PlainSpans.{reach_from, unit_from, quote_closes}
use Rattle.cweb_rules.proofs.Ranges.{later_by, later_by-add}
use Rattle.cweb_rules.proofs.whole_literals.quoted_len.Goals as goal

pub returns-then-begins-clause-ends : goal.returns-then-begins-clause-ends
returns-then-begins-clause-ends c =
    let rest = c.units.rest.now in
    let after = c.split_at.result.1.now in
    let n = c.plain_in_literal.result in
    let passed = length c.args.text.now - length rest in
    let size : passed + (n + 0) ≡ length c.args.text.now - length after = omega (
      arith,
      c.units.invariant.within,
      c.split_at.ensures.back_len,
      c.plain_in_literal.ensures.within,
    ) in
    c.units.invariant.so_far
    ∙ ap (λ (r : Reached). later_by passed r)
    (reach_from (Literal c.args.quote) Open rest after n c.plain_in_literal.ensures.value c.split_at.ensures.back
    ∙ ap (λ (r : Reached). later_by n r)
    (quote_closes c.args.quote after (sym c.begins.ensures.value ∙ c.if-begins.true)))
    ∙ ap (λ k. record { size = k; close = 1; how = Closed }) size

pub units-preserved : goal.units-preserved
units-preserved c =
    let look = look_in_literal c.args.quote in
    let rest = c.units.rest.now in
    let after = c.split_at.result.1.now in
    let left = c.split_at-in-units.result.1.now in
    let n = c.plain_in_literal.result in
    let k = c.escape_len-size.result in
    let passed = length c.args.text.now - length rest in
    let some : 0 < k = omega (arith, c.if-size-eq0.false) in
    let size : passed + (n + k) ≡ length c.args.text.now - length left = omega (
      arith,
      c.units.invariant.within,
      c.split_at.ensures.back_len,
      c.split_at-in-units.ensures.back_len,
      c.plain_in_literal.ensures.within,
      c.escape_len-size.ensures.within,
    ) in
    record {
      within = omega (
        arith,
        c.units.invariant.within,
        c.split_at.ensures.back_len,
        c.split_at-in-units.ensures.back_len,
      );
      so_far = c.units.invariant.so_far
          ∙ ap (λ (r : Reached). later_by passed r)
          (reach_from (Literal c.args.quote) Open rest after n c.plain_in_literal.ensures.value c.split_at.ensures.back
          ∙ ap (λ (r : Reached). later_by n r)
          (unit_from look Open k after left some c.escape_len-size.ensures.within (c.escape_len-size.ensures.unit some)
          c.split_at-in-units.ensures.back)
          ∙ later_by-add n k (reached (reach look Open left)))
          ∙ later_by-add passed (n + k) (reached (reach look Open left))
          ∙ ap (λ m. later_by m (reached (reach look Open left))) size;
    }
