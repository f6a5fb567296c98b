use Rattle.cweb_store.proofs.Common.{◌∙◌}
use Rattle.cweb_store.proofs.TokenIndexLemmas.{index-cut}
use Rattle.cweb_store.proofs.tokens.token_index.numbers_from.Goals as goal

pub returns : goal.returns
returns c = λ test tokens are. c.split_at.ensures.back
    ∙ (index-cut test c.args.numbers.now tokens c.args.first c.count_below.result are c.count_below.ensures.count).1
