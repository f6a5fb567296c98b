use Rattle.cweb_store.proofs.Common.{arith}
use Rattle.cweb_store.proofs.TokenIndexLemmas.{index-cut}
use Rattle.cweb_store.proofs.tokens.token_index.TokenIndex.truncate.Goals as goal

pub returns-clause-index : goal.returns-clause-index
returns-clause-index c = λ tokens are.
    let n = c.args.count in
    record {
      uses = grind (arith, index-cut, c.truncate.ensures.items, c.as_slice.ensures.value, c.count_below-uses.ensures.count);
      defs =
          grind (arith, index-cut, c.truncate-2.ensures.items, c.as_slice-2.ensures.value, c.count_below-defs.ensures.count);
    }
