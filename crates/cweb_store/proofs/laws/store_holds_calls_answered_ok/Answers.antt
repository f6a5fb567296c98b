use Rattle.cweb_store.proofs.Common.{arith, common_steps}
use Rattle.cweb_store.proofs.BuilderCallLemmas.{held-one, taken-one, at-most-one}
use Rattle.cweb_store.proofs.laws.store_holds_calls_answered_ok.Goals as goal

pub loop-call-preserved : goal.loop-call-preserved
loop-call-preserved c =
    let l = c.loop-call in
    let inv = l.invariant in
    let made = c.make_in_place-is_ok.ensures in
    record {
      calls = grind (arith, common_steps);
      taken = rw c.in_ok-push.ensures.items (taken-one l.answers.items _ l.builder.contents inv.held inv.taken made.taken);
      held = rw (c.in_ok-push.ensures.items, made.made) (held-one l.answers.items _ l.builder.contents inv.held);
      few = rw made.made (at-most-one l.call-index l.builder.contents _ _ inv.few made.taken);
    }
