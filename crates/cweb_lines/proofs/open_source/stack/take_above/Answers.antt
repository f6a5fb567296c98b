use Rattle.cweb_lines.proofs.Common.{[], ap, rules, Some, ◌∙◌, arith, same_error, get_or-set_other}
use Rattle.cweb_lines.proofs.SourceStacks.{takes_same}
use Rattle.cweb_lines.proofs.open_source.stack.take_above.Goals as goal

pub returns-in-texts-clause-taken : goal.returns-in-texts-clause-taken
returns-in-texts-clause-taken g c = λ seen is rest.
    let top = rw c.in-Some.is at (c.in_ok-at.ensures.taken seen (ap (λ m. m.contents) c.texts.invariant.unread ∙ is)) in
    takes_same (Some c.in-Some.at) _ _ _ _ _ _ _ (c.texts.invariant.things seen is rest) c.texts.invariant.counted
    (top c.args.low (omega (arith, c.texts-test.true)) rest)

pub returns-in_err-at-clause-takes : goal.returns-in_err-at-clause-takes
returns-in_err-at-clause-takes g c =
    let loop = c.texts.invariant in
    let takes = c.in_err-at.ensures.takes in
    rw (same_error _ _ c.from_residual.ensures.1) (record {
      reads = rw loop.unread at takes.reads;
      named = λ seen is names each. rw loop.unread at (takes.named seen (ap (λ m. m.contents) loop.unread ∙ is) names
          (loop.named seen is names each));
      order = search rules;
      answers = search rules;
    })

pub returns-in-texts-clause-takes : goal.returns-in-texts-clause-takes
returns-in-texts-clause-takes g c =
    let loop = c.texts.invariant in
    let takes = c.in_ok-at.ensures.takes in
    record {
      reads = rw loop.unread at takes.reads;
      named = λ seen is names each. rw loop.unread at (takes.named seen (ap (λ m. m.contents) loop.unread ∙ is) names
          (loop.named seen is names each));
      order = search rules;
      answers = search rules;
    }

pub texts-preserved : goal.texts-preserved
texts-preserved g c =
    let loop = c.texts.invariant in
    let takes = c.in_ok-at.ensures.takes in
    let depth = rw c.in_default.is at c.in_ok-at.ensures.closes.depth in
    let counted = rw c.in_default.is at takes.answers.counted in
    record {
      unread = takes.reads.1 ∙ loop.unread;
      named = λ seen is names each. (takes.named seen (ap (λ m. m.contents) loop.unread ∙ is) names
          (loop.named seen is names each)).0;
      low = omega (arith, depth, c.texts-test.true);
      shallow = omega (arith, depth, loop.shallow);
      numbers = takes.order.numbers;
      deep = takes.order.deep;
      files = omega (arith, takes.order.files, loop.files);
      below = grind (arith, c.in_ok-at.ensures.closes.below, c.texts-test.true);
      kept = grind (arith, c.in_default.is, c.in_ok-at.ensures.closes.numbers);
      same = grind (arith, get_or-set_other, c.in_ok-at.ensures.closes.closed, c.in_default.is);
      counted = (λ i. record { lines = counted.0 i; bytes = counted.1 i }) ∙ loop.counted;
      things = λ seen is rest.
          let top = rw c.in_default.is at (c.in_ok-at.ensures.taken seen (ap (λ m. m.contents) loop.unread ∙ is)) in
          loop.things seen is rest ∙ top c.args.low c.texts-test.true rest;
    }

pub returns-clause-takes : goal.returns-clause-takes
returns-clause-takes g c =
    let loop = c.texts.invariant in
    record {
      reads = (λ file. [], loop.unread);
      named = λ seen is names each. (loop.named seen is names each, loop.unread);
      order = search rules;
      answers = search rules;
    }
