use Rattle.std.proofs.Common.{rules}
use Rattle.cweb_store.specs.inner.Words.{hash_of}
use Rattle.cweb_store.proofs.words.key.hash.Goals as goal

pub returns : goal.returns
unfolding hash_of
returns c = search rules
