-- A comment that ends in its line doesn't depend on the bytes after it.
use Rattle.cweb_rules.proofs.Common.{arith, ◌≡◌, ◌≤◌, ℕ, Bool, true, false, ◌&&◌, List, [], ◌∷◌, ◌++◌, length, refl, ap, ◌∙◌, codes, begins, Closed, reach_of_line_comment, comment_match, line_comment_match, AtLineEnd, opens_comment, look_in_comment, drop-append-le}
use Rattle.cweb_rules.proofs.Reaches.{IsLocal, reach-line}
use Rattle.cweb_rules.proofs.Looks.{all_some, whole, comment-local, comment-units}
use Rattle.cweb_rules.proofs.OverLineEnds.{ends_in_line}
use Rattle.cweb_rules.proofs.Seams.{begins_line}

pub and_same : (a' a b' b : Bool) → a' ≡ a → (a ≡ true → b' ≡ b) → (a' && b') ≡ (a && b)
and_same a' true b' b e f = ap (λ v. v && b') e ∙ f refl
and_same a' false b' b e f = ap (λ v. v && b') e

pub comment_local : (more : List ℕ) → AtLineEnd more → IsLocal (look_in_comment (begins (codes "*/")) 2) more
comment_local more e = grind (arith, comment-local, begins_line)

pub comment_at_line : (t more : List ℕ) → AtLineEnd more → 2 ≤ length t
    → opens_comment t ≡ false → comment_match (t ++ more) ≡ comment_match t
comment_at_line t more e two ends = grind (arith, drop-append-le, ends_in_line, all_some, comment-units, comment_local)

line_comment-stops : (more : List ℕ) → AtLineEnd more
    → reach_of_line_comment more ≡ record { units = []; close = 0; how = Closed }
line_comment-stops [] e = refl
line_comment-stops (b ∷ more) e = ap (λ n. reach_of_line_comment (n ∷ more)) e

pub line_comment_at_line : (t more : List ℕ) → AtLineEnd more
    → 2 ≤ length t → line_comment_match (t ++ more) ≡ line_comment_match t
line_comment_at_line t more e two = grind (arith, IsLocal, reach-line, whole, line_comment-stops more e)
