-- The bytes of the next lexeme pay for what it emits.
use Rattle.cweb_scan.proofs.Common.{ℕ, List, ◌∷◌, names_include, next_match, ScanState}
use Rattle.cweb_rules.specs.laws.Laws.{FitsAndPays}
use Rattle.cweb_rules.proofs.MatchesPay.{prefix_in-fair}

pub fair : (s : ScanState) (b : ℕ) (t : List ℕ) → FitsAndPays s.context (b ∷ t) (next_match s (b ∷ t))
fair s b t = prefix_in-fair s.context (names_include s) b t
