use Rattle.cweb_out.proofs.Common.{◌∙◌, ap, arith, Some, all_tokens, token_model, slice_range}
use Rattle.cweb_store.proofs.RangeLemmas.{range-split, range-head}
use Rattle.cweb_out.proofs.frame.take_use_in.Goals as goal

pub returns-in-Name-clause-some : goal.returns-in-Name-clause-some
returns-in-Name-clause-some c = grind (arith, range-head)

pub returns-in-Name-token-clause-some : goal.returns-in-Name-token-clause-some
returns-in-Name-token-clause-some c =
    let ts = all_tokens c.args.store.now.parts in
    let first = c.args.part.now.first in
    let after = c.args.part.now.after in
    let next = c.next_use-next.result in
    let here = c.token-2.ensures ∙ ap (λ t. Some (token_model t)) c.in-Name-token.is in
    record {
      before = slice_range ts first next;
      none = c.next_use-next.ensures.before;
      same = grind (arith, range-split, range-head);
    }
