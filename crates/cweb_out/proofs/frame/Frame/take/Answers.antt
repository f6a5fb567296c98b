use Rattle.cweb_out.proofs.Common.{arith, ◌∙◌, ◌≡◌, ◌∷◌}
use Rattle.cweb_out.proofs.Suffixes.{suffix-first, suffix-next, IsWithin-next}
use Rattle.cweb_out.proofs.frame.Frame.take.Goals as goal

pub parts-preserved : goal.parts-preserved
parts-preserved c =
    let h : c.parts.self.rest ≡ c.in_ok-self.field-0 ∷ c.next.new.self = c.in_ok-self.ensures.steps in
    let w = c.args.store.now in
    let within = IsWithin-next _ _ h c.parts.invariant.within in
    record {
      owner = c.parts.invariant.owner;
      within = record { part = within.0; rest = within.1 };
      same = c.parts.invariant.same ∙ suffix-next w c.parts.self _ _ c.parts-test.true h;
      started = c.parts.invariant.started;
    }

pub returns-clause-some : goal.returns-clause-some
returns-clause-some c = grind (arith, suffix-first)
