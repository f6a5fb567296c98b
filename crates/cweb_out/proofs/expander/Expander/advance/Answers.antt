use Rattle.cweb_out.proofs.Common.{◌≡◌, ◌-◌, arith, ◌∙◌, vec_capacity, refl, vec_len, slice_set, take-set, token_model}
use Rattle.cweb_out.proofs.Tops.{HasTop, TopMoved, lower, valid_lower, top_ended, top_moved}
use Rattle.cweb_out.proofs.expander.Expander.advance.Goals as goal

pub take-requires : goal.take-requires
take-requires c =
    let frames = c.frames.self.frames in
    let top : HasTop (vec_len frames) frames.items c.in-Some.frame.now = grind arith in
    (valid_lower c.frames.invariant.valid top).1.owned.within

abbrev moved : (c : goal.In-Some-take)
    → TopMoved c.args.self.now.store.now c.args.self.now.frames.items (slice_set c.frames.self.frames.items
    (vec_len c.frames.self.frames - 1) c.take.new.self) (token_model c.in-Some-take.token)
    (vec_capacity c.frames.self.frames)
moved c =
    let frames = c.frames.self.frames in
    let top : HasTop (vec_len frames) frames.items c.in-Some.frame.now =
    record { count = frames.ok.0; some = c.in-Some.ensures.item.3.0; is = c.in-Some.ensures.value } in
    top_moved c.frames.invariant.valid c.frames.invariant.left
    c.frames.invariant.work top c.in-Some-take.ensures.some c.take.ensures.keeps.within c.take.ensures.keeps.owner

pub returns-in-Some-take-clause-keeps : goal.returns-in-Some-take-clause-keeps
returns-in-Some-take-clause-keeps c = record {
  store = c.frames.invariant.store;
  plan = c.frames.invariant.plan;
  valid = rw c.frames.invariant.store (moved c).valid;
}

pub returns-in-Some-take-clause-some : goal.returns-in-Some-take-clause-some
returns-in-Some-take-clause-some c = (moved c).advances

pub frames-preserved : goal.frames-preserved
frames-preserved c =
    let frames = c.frames.self.frames in
    let top : HasTop (vec_len frames) frames.items c.in-Some.frame.now = grind arith in
    let is : c.pop.new.self.items ≡ lower (vec_len frames) frames.items = grind (arith, take-set) in
    let ended = top_ended c.frames.invariant.valid top (c.in_default-take.ensures.none refl) is in
    let less = ended.work in
    let earlier = c.frames.invariant.work in
    record {
      valid = rw c.pop.ensures.capacity ended.valid;
      store = c.frames.invariant.store;
      plan = c.frames.invariant.plan;
      left = c.frames.invariant.left ∙ ended.left;
      work = omega arith;
    }
