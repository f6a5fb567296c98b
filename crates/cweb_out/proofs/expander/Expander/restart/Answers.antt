use Rattle.cweb_out.proofs.Common.{true, ◌≡◌, ◌+◌, ◌∷◌, [], vec_capacity, list_all, Stored, names, uses, ends_below, suffix, root_list, arith}
use Rattle.cweb_out.proofs.StackUses.{Valid-one}
use Rattle.cweb_out.proofs.Roots.{root_below}
use Rattle.cweb_out.proofs.expander.Expander.restart.Goals as goal

pub returns-clause-valid : goal.returns-clause-valid
returns-clause-valid c =
    let w : Stored = c.args.self.now.store.now in
    let frame = c.of_root-frame.result in
    let e : c.push_reserved.new.self.items ≡ frame ∷ [] = grind arith in
    let b : list_all (ends_below w (names w)) (uses w (suffix w frame)) ≡ true = grind (arith, root_below) in
    let r : vec_capacity c.push_reserved.new.self ≡ names w + 1 = grind arith in
    let l : suffix w frame ≡ root_list w frame.owner = grind arith in
    Valid-one e c.of_root-frame.ensures.within b r l
