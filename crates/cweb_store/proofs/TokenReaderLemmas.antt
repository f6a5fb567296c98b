-- The bytes of tokens, from their records and strings.
use Rattle.cweb_store.proofs.Common.{◌≡◌, ℕ, List, [], ◌∷◌, map, direct_bytes, Place, Record}
use Rattle.cweb_store.specs.inner.Records.{tokens_of}
use Rattle.cweb_store.proofs.RecordLemmas.{direct-alone}

-- Records have the bytes of their tokens.
pub direct-by : (strings : List (List ℕ)) (places : List Place) (rs : List Record)
    → map direct_bytes (tokens_of strings [] rs) ≡ map direct_bytes (tokens_of strings places rs)
direct-by strings places [] i = []
direct-by strings places (r ∷ rs) i = direct-alone strings places r i ∷ direct-by strings places rs i
