use Rattle.cweb_out.proofs.Common.{◌≡◌, ◌∷◌, refl, arith}
use Rattle.cweb_out.proofs.Suffixes.{IsWithin-next}
use Rattle.cweb_out.proofs.FirstUses.{pass-on, pass-part, pass-to-use}
use Rattle.cweb_out.proofs.frame.Frame.take_use.Goals as goal

pub returns-in-Some-clause-some : goal.returns-in-Some-clause-some
returns-in-Some-clause-some c = grind (arith, pass-on, pass-to-use)

pub parts-preserved : goal.parts-preserved
parts-preserved c =
    let h : c.parts.self.rest ≡ c.in_ok-self.field-0 ∷ c.next.new.self = c.in_ok-self.ensures.steps in
    let w = c.args.store.now in
    let within = IsWithin-next _ _ h c.parts.invariant.within in
    record {
      owner = c.parts.invariant.owner;
      within = record { part = within.0; rest = within.1 };
      passed = pass-on c.parts.invariant.passed
          (pass-part w c.parts.self c.in_ok-self.field-0 c.next.new.self c.parts.invariant.started
          (c.in_default.ensures.none refl) h);
      started = c.parts.invariant.started;
    }
