use Rattle.cweb_store.proofs.Common.{arith}
use Rattle.cweb_store.proofs.PrefixLemmas.{names_decide}
use Rattle.cweb_store.proofs.found.find_one.Goals as goal

pub returns-in_default : goal.returns-in_default
returns-in_default c =
    grind (
      arith,
      names_decide _ _ _ _ (c.range-range.ensures.between tt) c.new.ensures c.range-range.ensures.ordered,
      c.in_default.ensures.steps.0,
    )

pub returns-then-not-starts_with : goal.returns-then-not-starts_with
returns-then-not-starts_with c =
    grind (
      arith,
      names_decide _ _ _ _ (c.range-range.ensures.between tt) c.new.ensures c.range-range.ensures.ordered,
      c.in-Some.ensures.steps,
      c.spelling.ensures,
      c.starts_with.ensures.value,
      c.if-not-starts_with.true,
      c.next.new.self,
    )

pub returns-in_default-next : goal.returns-in_default-next
returns-in_default-next c =
    grind (
      arith,
      names_decide _ _ _ _ (c.range-range.ensures.between tt) c.new.ensures c.range-range.ensures.ordered,
      c.in-Some.ensures.steps,
      c.in_default-next.ensures.steps.0,
      c.spelling.ensures,
      c.starts_with.ensures.value,
      c.if-not-starts_with.false,
    )

pub returns-then-starts_with : goal.returns-then-starts_with
returns-then-starts_with c =
    grind (
      arith,
      names_decide _ _ _ _ (c.range-range.ensures.between tt) c.new.ensures c.range-range.ensures.ordered,
      c.in-Some.ensures.steps,
      c.in-Some-next.ensures.steps,
      c.spelling.ensures,
      c.starts_with.ensures.value,
      c.if-not-starts_with.false,
      c.spelling-2.ensures,
      c.starts_with-2.ensures.value,
      c.if-starts_with.true,
    )

pub returns-else-starts_with : goal.returns-else-starts_with
returns-else-starts_with c =
    grind (
      arith,
      names_decide _ _ _ _ (c.range-range.ensures.between tt) c.new.ensures c.range-range.ensures.ordered,
      c.in-Some.ensures.steps,
      c.in-Some-next.ensures.steps,
      c.spelling.ensures,
      c.starts_with.ensures.value,
      c.if-not-starts_with.false,
      c.spelling-2.ensures,
      c.starts_with-2.ensures.value,
      c.if-starts_with.false,
    )
