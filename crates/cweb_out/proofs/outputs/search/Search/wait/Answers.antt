use Rattle.cweb_out.proofs.Common.{refl, Waiting}
use Rattle.cweb_out.proofs.Waits.{waited-fits}
use Rattle.cweb_out.proofs.outputs.search.Search.wait.Goals as goal

pub returns : goal.returns
returns c =
    let f : Waiting = record { name = c.args.name; text = c.of_root.result } in
    waited-fits f c.requires.fit c.requires.unseen c.requires.name refl
    c.of_root.ensures.within c.of_root.ensures.list refl c.in_ok-push.ensures.items
