use Rattle.cweb_store.proofs.Common.{arith, length, sym}
use Rattle.std.proofs.Common.{ltb-true, ltb-false}
use Rattle.cweb_store.proofs.NextLemmas.{next-is, next-none, next-past}
use Rattle.cweb_store.proofs.tokens.token_index.next_in_range.Goals as goal

pub returns-in_default : goal.returns-in_default
returns-in_default c = λ test tokens are.
    next-none test tokens c.args.part c.args.numbers.now c.count_below.result are c.count_below.ensures.count c.requires
    (ltb-false c.count_below.result (length c.args.numbers.now) (sym c.in_default.ensures.lookup.0))

pub returns-then-number-part : goal.returns-then-number-part
returns-then-number-part c = λ test tokens are. next-is test tokens c.args.part c.args.numbers.now c.count_below.result
    c.in-Some.number.now are c.count_below.ensures.count (ltb-true c.count_below.result (length c.args.numbers.now)
    (sym c.in-Some.ensures.lookup.0)) c.in-Some.ensures.lookup.1 (omega (arith, c.if-number-part.true))

pub returns : goal.returns
returns c = λ test tokens are. grind (arith, next-past, ltb-true)
