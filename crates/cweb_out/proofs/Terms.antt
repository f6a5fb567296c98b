-- Definitions that only proofs cite.
use Rattle.std.specs.Prelude.{List, Option}
use Rattle.std.specs.List.{last_or}
use Rattle.cweb_store.specs.Parts.{Token}

-- The last token of a list, or the one before it.
abbrev pub last_token : Option Token → List Token → Option Token
last_token left ts = last_or left ts
