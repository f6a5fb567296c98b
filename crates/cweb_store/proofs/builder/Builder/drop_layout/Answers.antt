use Rattle.cweb_store.proofs.Common.{sym, ◌∙◌, ap, arith, subst, take, Option, PartsSoFar, Contents, vec_capacity, Open, ArePartRanges, parts_in}
use Rattle.cweb_store.specs.Calls.{with_dropped}
use Rattle.cweb_store.proofs.PartRangeLemmas.{cut-parts}
use Rattle.cweb_store.proofs.builder.Builder.drop_layout.Goals as goal

pub returns-clause-contents : goal.returns-clause-contents
returns-clause-contents c =
    let s = c.self.inside in
    let e = c.end_before_layout-end in
    let tied = subst (λ (current : Option Open).
    ArePartRanges s.tokens.tokens s.ranges.items current (vec_capacity s.ranges)) c.in-Some.is c.self.invariant in
    let all : PartsSoFar → Contents =
    λ p. record { occurrences = s.names; parts = p; replacements = s.replacements } in
    rw (c.truncate.ensures.tokens, ← c.self.view_is)
    (ap (λ current. all (parts_in (take e.result s.tokens.tokens) s.ranges.items current)) c.in-Some.is
    ∙ ap all (cut-parts s.tokens.tokens s.ranges.items c.in-Some.current _ e.result _ tied e.ensures.cut.begins e.ensures.part)
    ∙ ap (λ current. with_dropped (all (parts_in s.tokens.tokens s.ranges.items current))) (sym c.in-Some.is))

pub returns-clause-rooms : goal.returns-clause-rooms
returns-clause-rooms c = grind (arith, c.truncate.ensures.rooms, c.self.view_is)
