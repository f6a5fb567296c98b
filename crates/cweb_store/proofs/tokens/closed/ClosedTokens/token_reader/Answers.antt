use Rattle.cweb_store.proofs.TokenReaderLemmas.{direct-by}
use Rattle.cweb_store.proofs.tokens.closed.ClosedTokens.token_reader.Goals as goal

pub returns : goal.returns
returns c =
    let s = c.self.inside in
    rw (c.slices.ensures, c.as_slice.ensures.value, ← c.self.view_is)
    (direct-by s.strings s.places.items s.records.items)
