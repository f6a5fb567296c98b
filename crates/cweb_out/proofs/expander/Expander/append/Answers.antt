use Rattle.cweb_out.proofs.Common.{◌≡◌, ◌∙◌, ◌++◌, ◌-◌, ap, arith, refl, sym, vec_capacity, List, vec_len, slice_set, take-set, Token, Name}
use Rattle.cweb_out.proofs.PrintedPrefixes.{prefix_more, prefix_of}
use Rattle.cweb_out.proofs.Leaving.{TopGone, TopUsed, top_gone, top_used}
use Rattle.cweb_out.proofs.TopAfterDirect.{TopPassed, top_passed}
use Rattle.cweb_out.proofs.Tops.{HasTop, lower, valid_lower}
use Rattle.cweb_out.proofs.expander.Expander.append.Goals as goal
use Rattle.cweb_out.proofs.expander.Expander.append.Goals.{After-pop, In_default-take_name}

pub append-requires : goal.append-requires
append-requires c =
    let top : HasTop (vec_len c.frames.self.frames) c.frames.self.frames.items c.in-Some.frame.now = grind arith in
    (valid_lower c.frames.invariant.valid top).1.owned.within

abbrev gone : (c : After-pop) → TopGone c.args.self.now.store.now
    c.frames.self.frames.items c.pop.new.self.items c.append.ensures.prints.prints.done
    (vec_capacity c.frames.self.frames)
gone c =
    let frames = c.frames.self.frames in
    let top : HasTop (vec_len frames) frames.items c.in-Some.frame.now =
    record { count = c.frames.self.frames.ok.0; some = c.in-Some.ensures.item.3.0; is = c.in-Some.ensures.value } in
    let is : c.pop.new.self.items ≡ lower (vec_len frames) frames.items = c.pop.ensures.rest
    ∙ take-set frames.items (vec_len frames - 1) c.append.new.self in
    top_gone c.frames.invariant.valid top c.append.ensures.prints.prints.whole c.append.ensures.prints.prints.direct
    c.append.ensures.prints.within c.append.ensures.prints.owner (c.append.ensures.ended c.if-append.true) is

pub frames-smaller-then-append : goal.frames-smaller-then-append
frames-smaller-then-append c = (gone c).work

pub frames-preserved-then-append : goal.frames-preserved-then-append
frames-preserved-then-append c =
    record {
      valid =
          rw c.pop.ensures.capacity (gone c).valid;
      store = c.frames.invariant.store;
      plan = c.frames.invariant.plan;
      setting = c.append.ensures.prints.setting ∙ c.frames.invariant.setting;
      prints = prefix_more c.frames.invariant.setting c.frames.invariant.prints (prefix_of _ _
          c.append.ensures.prints.prints (gone c).left);
    }

abbrev taken : (c : goal.After-enter-arg-1) → TopUsed c.args.self.now.store.now c.frames.self.frames.items
    (slice_set c.frames.self.frames.items (vec_len c.frames.self.frames - 1) c.take_name.new.self)
    c.append.ensures.prints.prints.done (Name c.in-Some-take_name.name) (vec_capacity c.frames.self.frames)
taken c =
    let frames = c.frames.self.frames in
    let top : HasTop (vec_len frames) frames.items c.in-Some.frame.now =
    record { count = c.frames.self.frames.ok.0; some = c.in-Some.ensures.item.3.0; is = c.in-Some.ensures.value } in
    let printed = c.append.ensures.prints in
    top_used c.frames.invariant.valid top printed.prints.whole printed.prints.direct printed.within printed.owner
    c.in-Some-take_name.ensures.some c.take_name.ensures.keeps.within c.take_name.ensures.keeps.owner

pub enter-requires-clause-valid : goal.enter-requires-clause-valid
enter-requires-clause-valid c = rw c.frames.invariant.store (taken c).valid

pub enter-requires-clause-lower : goal.enter-requires-clause-lower
enter-requires-clause-lower c = rw c.frames.invariant.store (taken c).lower

abbrev used : (c : goal.After-enter) → TopUsed c.args.self.now.store.now c.frames.self.frames.items
    (slice_set c.frames.self.frames.items (vec_len c.frames.self.frames - 1) c.take_name.new.self)
    c.append.ensures.prints.prints.done (Name c.in-Some-take_name.name) (vec_capacity c.frames.self.frames)
used c =
    let frames = c.frames.self.frames in
    let top : HasTop (vec_len frames) frames.items c.in-Some.frame.now =
    record { count = c.frames.self.frames.ok.0; some = c.in-Some.ensures.item.3.0; is = c.in-Some.ensures.value } in
    let printed = c.append.ensures.prints in
    top_used c.frames.invariant.valid top printed.prints.whole printed.prints.direct printed.within printed.owner
    c.in-Some-take_name.ensures.some c.take_name.ensures.keeps.within c.take_name.ensures.keeps.owner

pub frames-smaller : goal.frames-smaller
frames-smaller c =
    let less = (used c).work in
    let more = rw c.frames.invariant.store at c.enter.ensures.enters.work in
    omega (arith, less, more)

pub frames-preserved : goal.frames-preserved
frames-preserved c =
    let entered = rw c.frames.invariant.store at c.enter.ensures.enters.left in
    record {
      valid = rw (c.enter.ensures.keeps.store ∙ c.frames.invariant.store) at c.enter.ensures.keeps.valid;
      store = c.enter.ensures.keeps.store ∙ c.frames.invariant.store;
      plan = c.enter.ensures.keeps.plan ∙ c.frames.invariant.plan;
      setting = c.append.ensures.prints.setting ∙ c.frames.invariant.setting;
      prints = prefix_more c.frames.invariant.setting c.frames.invariant.prints
          (prefix_of _ _ c.append.ensures.prints.prints ((used c).left
          ∙ ap (λ (ts : List Token). c.append.ensures.prints.prints.done ++ ts) (sym entered)));
    }

-- No use comes next.
abbrev passed : (c : In_default-take_name)
    → TopPassed c.args.self.now.store.now c.frames.self.frames.items (slice_set c.frames.self.frames.items (vec_len
    c.frames.self.frames - 1) c.take_name.new.self) c.append.ensures.prints.prints.done
    (vec_capacity c.frames.self.frames)
passed c =
    let frames = c.frames.self.frames in
    let top : HasTop (vec_len frames) frames.items c.in-Some.frame.now =
    record { count = c.frames.self.frames.ok.0; some = c.in-Some.ensures.item.3.0; is = c.in-Some.ensures.value } in
    rw (c.in_default-take_name.ensures.none refl) (top_passed c.frames.invariant.valid top
    c.append.ensures.prints.prints.whole c.append.ensures.prints.prints.direct c.append.ensures.prints.within
    c.append.ensures.prints.owner)

pub returns-in_default-take_name-clause-valid : goal.returns-in_default-take_name-clause-valid
returns-in_default-take_name-clause-valid c = rw c.frames.invariant.store (passed c).valid

pub returns-in_default-take_name-clause-prints : goal.returns-in_default-take_name-clause-prints
returns-in_default-take_name-clause-prints c =
    prefix_more c.frames.invariant.setting c.frames.invariant.prints
    (prefix_of _ _ c.append.ensures.prints.prints (passed c).left)
