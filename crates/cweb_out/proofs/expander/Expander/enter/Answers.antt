use Rattle.std.proofs.Common.{rules}
use Rattle.cweb_out.proofs.Common.{arith, ◌≡◌, ◌∷◌, vec_capacity, refl, sym, ap, ◌∙◌, subst, Some, length, All, all_tokens, Stored, resolved_use, joined, PartIsWithin, tokens_of_parts}
use Rattle.cweb_out.proofs.Owners.{room-above}
use Rattle.cweb_out.proofs.StackUses.{Entered, entered}
use Rattle.cweb_out.proofs.expander.Expander.enter.Goals as goal

abbrev all : (c : goal.After-push_reserved) → Entered c.args.self.now.store.now
    c.args.self.now.frames.items c.push_reserved.new.self.items c.args.name (vec_capacity c.push_reserved.new.self)
all c =
    let w : Stored = c.args.self.now.store.now in
    let h : c.parts-rest.result ≡ c.in-Some-next.part ∷ c.next.new.self = c.in-Some-next.ensures.steps in
    let e : resolved_use w c.args.name ≡ Some c.in-Some.id = sym c.standing.ensures.name ∙ c.in-Some.is in
    let text : tokens_of_parts w (c.in-Some-next.part ∷ c.next.new.self) ≡ joined w c.in-Some.id =
    ap (tokens_of_parts w) (sym h) ∙ c.parts-rest.ensures.ranges.text in
    let within : All (PartIsWithin (length (all_tokens w.parts))) (c.in-Some-next.part ∷ c.next.new.self) =
    subst (All (PartIsWithin (length (all_tokens w.parts)))) h c.parts-rest.ensures.ranges.within in
    entered c.in-Some.id c.in-Some-next.part c.next.new.self c.requires.valid c.push_reserved.ensures.capacity
    c.requires.lower e text within c.push_reserved.ensures.items

pub push_reserved-requires : goal.push_reserved-requires
push_reserved-requires c = grind (arith, room-above)

pub returns-clause-keeps : goal.returns-clause-keeps
returns-clause-keeps c = record { store = refl; plan = refl; valid = (all c).valid }

pub returns-clause-enters : goal.returns-clause-enters
returns-clause-enters c = (all c).enters

pub returns-in_default-next-clause-keeps : goal.returns-in_default-next-clause-keeps
returns-in_default-next-clause-keeps c = search rules
