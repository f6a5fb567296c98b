use Rattle.cweb_store.proofs.Common.{ℕ, List, Option, None, length, get_or, ◌∙◌, ap, arith, drop_all, get_or-replicate, slice_get-get_or, last_from}
use Rattle.cweb_store.proofs.replacements.last_places.Goals as goal

pub loop-i-init : goal.loop-i-init
loop-i-init c =
    let none = c.in_ok-places.ensures.items in
    record {
      all = ap (λ (ps : List (Option ℕ)). length ps) none;
      last = λ byte h. ap (λ found. last_from byte found 0 c.args.bytes.now)
          (ap (λ (ps : List (Option ℕ)). get_or ps byte None) none ∙ get_or-replicate 256 byte None None h);
    }

pub returns : goal.returns
returns c = grind (arith, drop_all, slice_get-get_or)
