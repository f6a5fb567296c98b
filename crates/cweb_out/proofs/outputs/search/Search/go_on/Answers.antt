use Rattle.cweb_out.proofs.Common.{refl, Waiting}
use Rattle.cweb_out.proofs.Waits.{top-within, fits-swap}
use Rattle.cweb_out.proofs.Searches.{goes-ranked, goes-back, goes-on}
use Rattle.cweb_out.proofs.outputs.search.Search.go_on.Goals as goal

pub next_unranked-requires-clause-within : goal.next_unranked-requires-clause-within
next_unranked-requires-clause-within c = top-within c.args.self.now.waiting.items c.args.top c.requires.fits

pub returns-in_default : goal.returns-in_default
returns-in_default c = goes-ranked c.args.top c.args.top.text c.requires.fits c.requires.chain
    (rw c.as_slice.ensures.value at (c.in_default.ensures.none refl)) refl

pub returns-then-is_waiting : goal.returns-then-is_waiting
returns-then-is_waiting c =
    let top : Waiting = record { name = c.args.top.name; text = c.next_unranked.new.text } in
    goes-back c.args.self.now.waiting.items c.args.top top c.requires.fits c.requires.chain refl
    c.next_unranked.ensures.within (rw c.as_slice.ensures.value at c.in-Some.ensures.meets) c.in_ok-push.ensures.items
    (rw c.as_slice-2.ensures.value at (c.is_waiting.ensures.waits c.if-is_waiting.true))

pub wait-requires-clause-fit : goal.wait-requires-clause-fit
wait-requires-clause-fit c =
    let top : Waiting = record { name = c.args.top.name; text = c.next_unranked.new.text } in
    rw c.in_ok-push.ensures.items (fits-swap
    c.args.self.now.waiting.items c.args.top top refl c.next_unranked.ensures.within c.requires.fits)

pub returns : goal.returns
returns c =
    let top : Waiting = record { name = c.args.top.name; text = c.next_unranked.new.text } in
    goes-on
    c.args.self.now.waiting.items c.args.top top c.requires.fits c.requires.chain refl c.next_unranked.ensures.within
    (rw c.as_slice.ensures.value at c.in-Some.ensures.meets) c.in_ok-push.ensures.items c.in_ok-wait.ensures
