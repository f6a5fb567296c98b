use Rattle.std.proofs.Common.{rules}
use Rattle.cweb_rules.proofs.Common.{ℕ, List, drop, ap, ◌∙◌, look_in_literal, Literal}
use Rattle.cweb_rules.specs.inner.LineItems.{goes_on}
use Rattle.cweb_rules.proofs.PlainSpans.{plain_goes_on}
use Rattle.cweb_rules.proofs.units.continues.Goals as goal

pub units-preserved-then-plain-gt0 : goal.units-preserved-then-plain-gt0
units-preserved-then-plain-gt0 c =
    let rest = c.units.rest.now in
    ap (λ (t : List ℕ). goes_on (look_in_literal c.args.quote) t)
    (c.split_at.ensures.back ∙ ap (λ n. drop n rest) c.plain_len-plain.ensures.value)
    ∙ plain_goes_on (Literal c.args.quote) rest ∙ c.units.invariant

pub returns-then-rest-size : goal.returns-then-rest-size
returns-then-rest-size c = search rules
