use Rattle.cweb_store.proofs.Common.{◌*◌, ◌/◌, ◌^◌, ap}
use Rattle.cweb_store.specs.inner.Words.{home_bucket_of}
use Rattle.cweb_store.proofs.words.key.home_bucket.Goals as goal

pub returns-clause-is : goal.returns-clause-is
unfolding home_bucket_of
returns-clause-is c = ap (λ m. (m * c.args.slots) / 2 ^ 64) c.key_hash.ensures
