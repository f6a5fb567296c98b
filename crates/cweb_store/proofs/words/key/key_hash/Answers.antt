use Rattle.cweb_store.proofs.Common.{refl}
use Rattle.cweb_store.specs.inner.Words.{key_hash}
use Rattle.cweb_store.proofs.words.key.key_hash.Goals as goal

pub returns : goal.returns
unfolding key_hash
returns c = refl
