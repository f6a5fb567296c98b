use Rattle.cweb_store.proofs.Common.{◌≡◌, ◌-◌, ℕ, suc, [], ◌∷◌, length, drop, ◌∙◌, ap, subst, arith, length-append, AreLinked, reverse}
use Rattle.cweb_store.proofs.LinkLemmas.{step-linked}
use Rattle.cweb_store.proofs.parts.links.Links.new.Goals as goal

pub loop-i-preserved : goal.loop-i-preserved
loop-i-preserved c =
    let i = c.loop-i.i - 1 in
    let ranges = c.args.ranges.now in
    let before = c.loop-i.invariant in
    let next : c.loop-i.i ≡ suc i = omega (arith, c.loop-i-test.true) in
    let size : c.len.result ≡ length c.loop-i.skips.items = omega (arith, c.len.ensures, c.loop-i.skips.ok.0) in
    let linked = subst (λ (k : ℕ).
    AreLinked c.args.resolutions.now (drop k ranges) (reverse c.loop-i.skips.items) c.loop-i.heads) next before.linked
    in
    record {
      linked = step-linked c.args.resolutions.now ranges i c.len.result c.put-skip.result _ c.loop-i.skips.items
          c.push.new.self.items c.loop-i.heads c.put-skip.new.self
          (omega (arith, next, size, before.count))
          c.put-skip.ensures c.in_ok-push.ensures.items linked;
      names = c.put-skip.ensures.names ∙ before.names;
      count =
          omega (
            arith,
            next,
            before.count,
            ap length c.in_ok-push.ensures.items,
            length-append c.loop-i.skips.items (c.put-skip.result ∷ []),
          );
    }
