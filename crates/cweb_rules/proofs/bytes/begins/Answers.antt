use Rattle.cweb_rules.proofs.Common.{◌≡◌, ℕ, List, [], ◌∷◌, ◌&&◌, ◌==◌, refl, ap, ◌∙◌, eqb, starts_with, begins}
use Rattle.cweb_rules.proofs.bytes.begins.Goals as goal

starts_with-begins : (s t : List ℕ) → starts_with eqb t s ≡ begins s t
starts_with-begins [] t = refl
starts_with-begins (x ∷ s) [] = refl
starts_with-begins (x ∷ s) (b ∷ t) = ap (λ r. (x == b) && r) (starts_with-begins s t)

pub returns-clause-value : goal.returns-clause-value
returns-clause-value c = c.starts_with.ensures.value ∙ starts_with-begins c.args.prefix.now c.args.text.now
