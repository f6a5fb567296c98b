use Rattle.cweb_store.proofs.Common.{sym, ◌∙◌, ap, arith, subst, take, [], ◌∷◌, ◌++◌, Option, None, PartRange, PartsSoFar, Contents, vec_capacity, Open, ArePartRanges, parts_in}
use Rattle.cweb_store.specs.Calls.{with_closed}
use Rattle.cweb_store.proofs.PartRangeLemmas.{close-cut, close-cut-are}
use Rattle.cweb_store.proofs.builder.Builder.close_part.Goals as goal

pub invariant_of-self : goal.invariant_of-self
invariant_of-self c =
    let s = c.self.inside in
    let e = c.end_at_close-end in
    let tied = subst (λ (current : Option Open).
    ArePartRanges s.tokens.tokens s.ranges.items current (vec_capacity s.ranges)) c.in-Some.is c.self.invariant in
    let after = subst (λ (r : PartRange). ArePartRanges (take e.result s.tokens.tokens) (s.ranges.items ++ r ∷ []) None
    (vec_capacity c.push_reserved.new.self)) (sym c.up_to.ensures) (close-cut-are s.tokens.tokens
    s.ranges.items c.in-Some.current _ _ e.result tied e.ensures.cut.begins e.ensures.cut.within) in
    rw (c.truncate.ensures.tokens, c.push_reserved.ensures.items) after

pub returns-clause-contents : goal.returns-clause-contents
returns-clause-contents c =
    let s = c.self.inside in
    let e = c.end_at_close-end in
    let tied = subst (λ (current : Option Open).
    ArePartRanges s.tokens.tokens s.ranges.items current (vec_capacity s.ranges)) c.in-Some.is c.self.invariant in
    let all : PartsSoFar → Contents =
    λ p. record { occurrences = s.names; parts = p; replacements = s.replacements } in
    rw (c.truncate.ensures.tokens, c.push_reserved.ensures.items, c.up_to.ensures, ← c.self.view_is)
    (ap all (close-cut s.tokens.tokens s.ranges.items c.in-Some.current _ e.result _ tied e.ensures.cut.begins
    e.ensures.cut.within e.ensures.part)
    ∙ ap (λ current. with_closed (all (parts_in s.tokens.tokens s.ranges.items current))) (sym c.in-Some.is))

pub returns-clause-rooms : goal.returns-clause-rooms
returns-clause-rooms c = grind (arith, c.truncate.ensures.rooms, c.push_reserved.ensures.capacity, c.self.view_is)
