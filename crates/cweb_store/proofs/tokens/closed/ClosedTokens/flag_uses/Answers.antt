use Rattle.cweb_store.proofs.Common.{◌≡◌, ◌+◌, ◌∷◌, ◌∙◌, drop, is_name_use, token_numbers, refl, ap, subst, sym, arith}
use Rattle.cweb_store.proofs.NextLemmas.{BeginsFrom, begins-none}
use Rattle.cweb_store.proofs.UseLemmas.{index-over, uses-end, uses-over}
use Rattle.cweb_store.proofs.tokens.closed.ClosedTokens.flag_uses.Goals as goal

pub uses-init : goal.uses-init
uses-init c = record {
  at = c.args.part.first;
  left = c.numbers_from-rest.ensures is_name_use c.args.self.now (c.as_slice.ensures.value
      ∙ c.self.invariant.index.uses ∙ ap (token_numbers is_name_use 0) c.self.view_is);
  within = c.requires.ordered;
  size = refl;
  same = λ n. refl;
}

pub uses-preserved : goal.uses-preserved
uses-preserved c =
    let ts = c.args.self.now in
    let after = c.args.part.after in
    let head : token_numbers is_name_use c.uses.invariant.at (drop c.uses.invariant.at ts)
    ≡ c.in-Some.number.now ∷ c.in-Some.later.now = sym c.uses.invariant.left ∙ c.in-Some.ensures.cases.0 in
    record {
      at = c.in-Some.number.now + 1;
      left = index-over ts c.uses.invariant.at c.in-Some.number.now c.in-Some.later.now head;
      within = omega (arith, c.if-number-part.false);
      size = c.flag_use.ensures.size ∙ c.uses.invariant.size;
      same = λ n.
          let over = uses-over c.args.resolutions.now n ts c.uses.invariant.at after c.in-Some.number.now _ _ head
          c.if-number-part.false c.token.ensures in
          grind (arith, over, c.flag_use.ensures.flags n, c.uses.invariant.same n);
    }

pub uses-smaller : goal.uses-smaller
uses-smaller c = grind (arith, c.in-Some.ensures.cases)

pub returns : goal.returns
returns c = record {
  flags = λ n.
      let none = uses-end c.args.resolutions.now n c.args.self.now c.uses.invariant.at c.args.part.after
      c.uses.invariant.within (subst (BeginsFrom c.args.part.after) c.uses.invariant.left
      (begins-none c.args.part.after c.uses.rest.now c.in_default.ensures.cases)) in
      grind (arith, none, c.uses.invariant.same n);
  size = c.uses.invariant.size;
}

pub returns-then-number-part : goal.returns-then-number-part
returns-then-number-part c = record {
  flags = λ n.
      let none = uses-end c.args.resolutions.now n c.args.self.now c.uses.invariant.at c.args.part.after
      c.uses.invariant.within (subst (BeginsFrom c.args.part.after) (sym c.in-Some.ensures.cases.0
      ∙ c.uses.invariant.left) c.if-number-part.true) in
      grind (arith, none, c.uses.invariant.same n);
  size = c.uses.invariant.size;
}
