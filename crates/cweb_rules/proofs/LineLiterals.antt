-- A literal that ends in its line doesn't depend on the bytes after it.
use Rattle.cweb_rules.proofs.Common.{◌≡◌, ◌≤◌, ℕ, ◌+◌, Bool, true, false, ◌||◌, ◌==◌, List, [], ◌∷◌, ◌++◌, length, drop, refl, ap, ◌∙◌, arith, if◌then◌else◌, codes, take-append-le, drop-append-le, length-drop, begins, Look, Reach, reach, reach_size, Cut, Open, reach_of_literal, look_in_literal, RuleMatch, has_quote_at, literal_prefix, starts_literal, quoted_match, quote_of, literal_match, AtLineEnd, is_unclosed, opens_literal, and_parts}
use Rattle.cweb_rules.proofs.Seams.{begins_line, drop_line, stops}
use Rattle.cweb_rules.proofs.Reaches.{IsLocal}
use Rattle.cweb_rules.proofs.Looks.{AllSome, literal-local, literal-some}
use Rattle.cweb_rules.specs.inner.LineItems.{goes_on}
use Rattle.cweb_rules.proofs.OverLineEnds.{ends_in_line, newline}
use Rattle.cweb_rules.proofs.Sizes.{IsWithin, begins-size, reach-size, literal-within}
use Rattle.cweb_rules.proofs.LineComments.{and_same}
use Rattle.cweb_rules.proofs.TokenSizes.{is_quoted-size}

pub quoted-line : (n : ℕ) (r : Reach) (t more : List ℕ) → n ≤ length t
    → reach_size r ≤ length (drop n t) → quoted_match n r (t ++ more) ≡ quoted_match n r t
quoted-line n r t more fits within = grind (arith, length-drop, take-append-le, drop-append-le)

-- A literal that ends in its line, or with it.
pub quoted_ends : (look : List ℕ → Look) (n : ℕ) (t more : List ℕ) → n ≤ length t → IsWithin look → AllSome look
    → ((more : List ℕ) → AtLineEnd more → IsLocal look more) → AtLineEnd more
    → (is_unclosed (reach look Open newline).how ≡ false → reach look Cut more ≡ reach look Cut [])
    → goes_on look (drop n t) ≡ false
    → quoted_match n (reach look Cut (drop n (t ++ more))) (t ++ more) ≡ quoted_match n (reach look Cut (drop n t)) t
quoted_ends look n t more fits within some local e stops ends =
    grind (arith, drop-append-le, ends_in_line, stops, quoted-line, reach-size)

is_quoted-line : (n : ℕ) (t more : List ℕ) → AtLineEnd more → n ≤ length t
    → has_quote_at n (t ++ more) ≡ has_quote_at n t
is_quoted-line n t more e h = λ i.
    drop_line (codes "\"") n t more refl e h i || drop_line (codes "'") n t more refl e h i

pub or_size : (a b : Bool) (n : ℕ) → (a || b) ≡ true → (a ≡ true → 1 ≤ n) → (b ≡ true → 1 ≤ n) → 1 ≤ n
or_size true b n h f g = f refl
or_size false b n h f g = g h

one_letter : (t : List ℕ) → (begins (codes "L") t || begins (codes "u") t || begins (codes "U") t) ≡ true → 1 ≤ length t
one_letter t h = grind (arith, or_size, begins-size)

pub literal_prefix-line : (t more : List ℕ) → AtLineEnd more → literal_prefix (t ++ more) ≡ literal_prefix t
literal_prefix-line t more e = grind (arith, and_same, begins_line, begins-size, one_letter)

literal_prefix-fits : (t : List ℕ) → literal_prefix t ≤ length t
literal_prefix-fits t = grind (arith, and_parts (begins (codes "u8") t) (has_quote_at 2 t))

pub starts_literal_line : (t more : List ℕ) → AtLineEnd more → starts_literal (t ++ more) ≡ starts_literal t
starts_literal_line t more e = grind (arith, literal_prefix-line, is_quoted-line, literal_prefix-fits)

literal-stops : (quote : ℕ) (more : List ℕ) → (quote == 10) ≡ false → AtLineEnd more
    → reach_of_literal quote more ≡ record { units = []; close = 0; how = Cut }
literal-stops quote [] h e = refl
literal-stops quote (b ∷ more) h e = grind arith

abbrev pub literal_with : ℕ → ℕ → List ℕ → RuleMatch
literal_with n quote t = quoted_match (n + 1) (reach_of_literal quote (drop (n + 1) t)) t

pub literal_at_line : (t more : List ℕ) → AtLineEnd more → starts_literal t ≡ true
    → opens_literal t ≡ false → literal_match (t ++ more) ≡ literal_match t
literal_at_line t more e starts ends =
    let n = literal_prefix t in
    let quote = quote_of (drop n t) in
    let fits = is_quoted-size n t starts in
    ap (λ n. literal_with n (quote_of (drop n (t ++ more))) (t ++ more)) (literal_prefix-line t more e)
    ∙ ap (λ v. literal_with n (if v then 39 else 34) (t ++ more))
    (drop_line (codes "'") n t more refl e (omega (arith, fits)))
    ∙ quoted_ends (look_in_literal quote) (n + 1) t more fits (literal-within quote) (literal-some quote)
    (λ m f. literal-local quote m (stops (λ b. b == 64) m refl f)) e
    (λ h. literal-stops quote more (no_newline (begins (codes "'") (drop n t))) e) ends
  where
    no_newline : (v : Bool) → ((if v then 39 else 34) == 10) ≡ false
    no_newline true = refl
    no_newline false = refl
