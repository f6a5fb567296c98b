-- A worked example: a thousand openers of names in a row. Each one ends the name before it.
use Rattle.cweb_scan.proofs.Common.{◌≡◌, ℕ, zero, suc, List, [], ◌∷◌, ◌++◌, length, refl, codes, scanned}
use Rattle.cweb_scan.proofs.ExampleWords.{at}

openers : ℕ → List ℕ
openers zero = []
openers (suc n) = 64 ∷ 60 ∷ openers n

thousand_faults : length (scanned (record { bytes = codes "@ @c " ++ openers 1000; place = at 0 1 } ∷ [])).faults ≡ 1000
unfolding openers
thousand_faults = refl
