use Rattle.cweb_store.proofs.Common.{List, Token, sym, flat_map, subst, AreInOneList, token_strings}
use Rattle.cweb_store.proofs.TokenStringLemmas.{tokens-valid}
use Rattle.cweb_store.specs.inner.StringLists.{text_bytes}
use Rattle.cweb_store.proofs.tokens.closed.ClosedTokens.text_bytes.Goals as goal

pub returns-clause-strings : goal.returns-clause-strings
returns-clause-strings c =
    let s = c.self.inside in
    subst (λ (v : List Token). AreInOneList c.text_bytes.result (flat_map token_strings v)) c.self.view_is
    (record {
      bytes = text_bytes s.strings;
      count = sym c.text_bytes.ensures.bytes;
      ranges = tokens-valid s.strings s.places.items 0 _ s.records.items c.self.invariant.numbers;
    })
