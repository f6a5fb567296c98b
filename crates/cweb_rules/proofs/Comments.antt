-- A comment ends at its `*/`, whatever follows.
use Rattle.cweb_rules.proofs.Common.{arith, ◌≡◌, ℕ, ◌+◌, true, false, ◌==◌, List, [], ◌∷◌, ◌++◌, length, map, refl, ap, codes, list_all, flat_map, begins, in_c, Reach, reach_in, Look, Goes, look_in_comment, Closed, Cut, is_quiet, c_match, rule_match, Comment, not-true}
use Rattle.cweb_rules.proofs.Joins.{unlike}
use Rattle.cweb_rules.proofs.TokensStay.{no_section}

abbrev look : List ℕ → Look
look t = look_in_comment (begins (codes "*/")) 2 t

quiet_look : (b : ℕ) (t : List ℕ) → is_quiet b ≡ true → look (b ∷ t) ≡ Goes 1
quiet_look b t h = grind (arith, not-true (42 == b), not-true (64 == b), no_section b t, unlike)

abbrev ended : List ℕ → Reach
ended x = record { units = map (λ b. b ∷ []) x; close = 2; how = Closed }

comment_ends : (x more : List ℕ) → list_all is_quiet x ≡ true → reach_in look Cut 0 (x ++ 42 ∷ 47 ∷ more) ≡ ended x
comment_ends [] more h = refl
comment_ends (b ∷ x) more h = grind (arith, quiet_look b, comment_ends x more)

singles : (x : List ℕ) → flat_map (λ u. u) (map (λ b. b ∷ []) x) ≡ x
singles [] = refl
singles (b ∷ x) = ap (λ t. b ∷ t) (singles x)

pub comment_prefix : (x more : List ℕ) → list_all is_quiet x ≡ true
    → c_match in_c false false (47 ∷ 42 ∷ x ++ 42 ∷ 47 ∷ more) ≡ rule_match (Comment Closed) (2 + (length x + 2))
comment_prefix x more h = grind (arith, comment_ends x more h, singles x)
