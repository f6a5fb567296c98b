use Rattle.cweb_out.proofs.Common.{◌≡◌, ◌∷◌, arith}
use Rattle.cweb_out.proofs.PrintedPrefixes.{frame_more, prefix_to}
use Rattle.cweb_out.proofs.Suffixes.{suffix-left, suffix-next, IsWithin-next}
use Rattle.cweb_out.proofs.frame.Frame.append.Goals as goal

pub returns-then-self-2-clause-prints : goal.returns-then-self-2-clause-prints
returns-then-self-2-clause-prints c = frame_more c.parts.invariant.prints c.append_part.ensures.prints

pub returns-then-self-2-clause-goes_on : goal.returns-then-self-2-clause-goes_on
returns-then-self-2-clause-goes_on c = grind (arith, suffix-left)

pub returns-in_default-clause-prints : goal.returns-in_default-clause-prints
returns-in_default-clause-prints c = grind (arith, frame_more, prefix_to)

pub parts-preserved : goal.parts-preserved
parts-preserved c =
    let w = c.args.store.now in
    let f = c.append_part.new.self in
    let h : f.rest ≡ c.in-Some.part ∷ c.next.new.self = c.in-Some.ensures.steps in
    let all = frame_more c.parts.invariant.prints c.append_part.ensures.prints in
    let within = IsWithin-next _ _ h all.within in
    record {
      started = c.append_part.ensures.started;
      prints = grind (arith, prefix_to, suffix-next);
    }
