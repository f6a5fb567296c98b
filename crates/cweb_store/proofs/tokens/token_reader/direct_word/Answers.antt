use Rattle.cweb_store.proofs.Common.{rules}
use Rattle.cweb_store.proofs.StringListLemmas.{get-string}
use Rattle.cweb_store.proofs.DirectBytesLemmas.{word-borrows}
use Rattle.cweb_store.proofs.tokens.token_reader.direct_word.Goals as goal
use Rattle.cweb_store.proofs.tokens.token_reader.direct_word.Goals.{in_default-via-in-Unknown+else-has_high_byte, in_default-via-in_default}

pub returns-in_default : goal.returns-in_default
returns-in_default c =
    search (rules, get-string, in_default-via-in-Unknown+else-has_high_byte, in_default-via-in_default, word-borrows)
