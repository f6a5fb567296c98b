use Rattle.cweb_store.proofs.Common.{List, Token, subst, ◌∙◌, is_defs, IsNextNumber, tokens_of}
use Rattle.cweb_store.proofs.UseLemmas.{next-any}
use Rattle.cweb_store.proofs.tokens.closed.ClosedTokens.has_defs.Goals as goal

pub returns : goal.returns
returns c =
    let s = c.self.inside in
    let is = c.next_in_range.ensures is_defs
    (tokens_of s.strings s.places.items s.records.items)
    (c.as_slice.ensures.value ∙ c.self.invariant.index.defs) in
    next-any is_defs c.args.self.now c.args.part c.next_in_range.result
    (subst (λ (v : List Token). IsNextNumber is_defs v c.args.part c.next_in_range.result) c.self.view_is is)
