use Rattle.cweb_store.proofs.Common.{◌≡◌, ◌∙◌, ap, subst, length, arith, [], ◌∷◌, ◌++◌, Option, IsWhole, vec_capacity, Open, ArePartRanges}
use Rattle.cweb_store.specs.inner.PartRanges.{last_range}
use Rattle.cweb_store.proofs.PartRangeLemmas.{close-are}
use Rattle.cweb_store.proofs.parts.closed.ClosedParts.new.Goals as goal

pub invariant_of-result-2 : goal.invariant_of-result-2
invariant_of-result-2 c =
    let ts = c.args.tokens.tokens in
    let ranges = c.args.ranges in
    let tied = subst (λ (current : Option Open).
    ArePartRanges ts ranges.items current (vec_capacity ranges)) c.in-Some.is c.requires in
    let range : c.up_to.result ≡ last_range c.in-Some.current (length ts) =
    c.up_to.ensures ∙ ap (last_range c.in-Some.current) (c.len.ensures ∙ ap length c.close-tokens.ensures) in
    let after = close-are ts ranges.items c.in-Some.current _ (length ranges.items) tied in
    let whole : IsWhole ts (ranges.items ++ last_range c.in-Some.current (length ts) ∷ []) =
    record { follow = after.follow; few_tokens = after.few_tokens; few_parts = omega (arith, after.few_parts) } in
    rw (c.push_reserved.ensures.items, range, c.close-tokens.ensures) whole
