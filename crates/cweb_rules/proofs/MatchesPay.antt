-- Each lexeme is within the source, and its bytes pay for what it emits.
use Rattle.cweb_rules.proofs.Common.{◌≡◌, ◌≤◌, ℕ, Bool, true, false, ◌&&◌, List, [], ◌∷◌, length, take, drop, arith, codes, prefix_len, prefix_len-le-length, Place, begins, at_line_end, is_blank, is_digit, is_word_byte, Effect, in_limbo, in_tex, in_macro, in_c, Closed, Cut, reach_of_comment, reach_of_line_comment, look_in_comment, Kind, Blanks, LineEnd, Comment, Identifier, Numeral, Punctuator, rule_match, listed, longest, number_len, continues_number, starts_number, Context, Limbo, TeX, Definition, Macro, CText, c_match, macro_match, head_match_of, match_in, Pays, FitsAndPays, c_rule, c_match_by, Rule}
use Rattle.cweb_rules.proofs.Sizes.{begins-size, reach-size, comment-within}
use Rattle.cweb_rules.proofs.TokenSizes.{number-size, longest-size}
use Rattle.cweb_rules.proofs.ItemMatchesPay.{fair_of, section_at-fair, skipped-fair, t, code_at-fair, text_prefix-fair, commented, literal_at-fair, raw_at-fair, include_at-fair}
use Rattle.cweb_rules.proofs.Longest.{longest_pos}
use Rattle.cweb_rules.specs.declared.rule.Rule.TheVariants as rule
use Rattle.cweb_rules.proofs.FirstBytes.{known_if}
use Rattle.cweb_rules.proofs.FirstRules.{IsFirst, first_rule}

run-fair : (c : Context) (k : Kind) (p : ℕ → Bool) (b : ℕ) (t : List ℕ) → p b ≡ true
    → (1 ≤ length (take (prefix_len p (b ∷ t)) (b ∷ t)) → Pays c k (take (prefix_len p (b ∷ t)) (b ∷ t)))
    → FitsAndPays c (b ∷ t) (rule_match k (prefix_len p (b ∷ t)))
run-fair c k p b t h pays = grind (arith, t, fair_of c (b ∷ t) k (prefix_len p (b ∷ t)), prefix_len-le-length p (b ∷ t))

digit_goes : (last b : ℕ) → is_digit b ≡ true → continues_number last b ≡ true
digit_goes last b h = grind arith

begins_number : (b : ℕ) (t : List ℕ) → starts_number (b ∷ t) ≡ true → continues_number 0 b ≡ true
begins_number b [] h = digit_goes 0 b h
begins_number b (d ∷ t) h = grind arith

number-fair : (c : Context) (b : ℕ) (t : List ℕ) → starts_number (b ∷ t) ≡ true
    → FitsAndPays c (b ∷ t) (rule_match Numeral (number_len 0 (b ∷ t)))
number-fair c b t h = grind (arith, t, begins_number b t h, number-size 0 (b ∷ t))

pub c_prefix-fair : (c : Context) (effect : ℕ → Effect) (with_opener includes : Bool) (b : ℕ) (t : List ℕ)
    → FitsAndPays c (b ∷ t) (c_match effect with_opener includes (b ∷ t))
c_prefix-fair c effect with_opener includes b t = by (c_rule includes u) (first_rule includes u)
  where
    u : List ℕ
    u = b ∷ t

    by : (r : Rule) → IsFirst includes u r → FitsAndPays c u (c_match_by effect with_opener u r)
    by rule.Blanks f = run-fair c Blanks is_blank b t f (λ e. e)
    by rule.LineEnd f = fair_of c u LineEnd 1 (omega arith) (omega arith) (λ e. omega (arith, e))
    by rule.Comment f = commented c _ b t (reach_of_comment (drop 2 u)) f.0 (begins-size (codes "/*") u f.1)
        (reach-size (look_in_comment (begins (codes "*/")) 2) Cut
        (comment-within (begins (codes "*/")) 2 (begins-size (codes "*/"))) (drop 2 u))
    by rule.LineComment f = commented c _ b t (reach_of_line_comment (drop 2 u)) f.0 (begins-size (codes "//") u f.1)
        (reach-size (look_in_comment at_line_end 0) Closed
        (comment-within at_line_end 0 (λ w k. omega arith)) (drop 2 u))
    by rule.Section f = section_at-fair c b t
    by rule.Code f = code_at-fair c effect with_opener b t
    by rule.RawLiteral f = raw_at-fair c u f.1
    by rule.Literal f = literal_at-fair c u f.2
    by rule.IncludedName f = include_at-fair c b t
    by rule.Number f = number-fair c b t f.2
    by rule.Identifier f = run-fair c Identifier is_word_byte b t f.3 (λ e. e)
    by rule.Punctuator f = fair_of c u Punctuator (longest listed u) (longest_pos listed u) (longest-size listed b t)
        (λ e. omega (arith, e, longest_pos listed u))

macro_prefix-fair : (c : Context) (b : ℕ) (t : List ℕ) → FitsAndPays c (b ∷ t) (macro_match (b ∷ t))
macro_prefix-fair c b t = known_if (FitsAndPays c (b ∷ t))
    (begins (codes "\\") (b ∷ t) && at_line_end (drop 1 (b ∷ t))) _ _ (λ h. skipped-fair c b t)
    (λ h. c_prefix-fair c in_macro true false b t)

head_as-fair : (begun : Place) (k : Kind) (n : ℕ) (b : ℕ) (t : List ℕ)
    → FitsAndPays (Definition begun) (b ∷ t) (rule_match k n)
    → FitsAndPays (Definition begun) (b ∷ t) (head_match_of k (rule_match k n) (b ∷ t))
head_as-fair begun Blanks n b t f = f
head_as-fair begun LineEnd n b t f = f
head_as-fair begun (Comment how) n b t f = f
head_as-fair begun Identifier n b t f = grind (arith, fair_of, t)
head_as-fair begun _ n b t f = text_prefix-fair (Definition begun) in_tex b t

pub prefix_in-fair : (c : Context) (includes : Bool) (b : ℕ) (t : List ℕ)
    → FitsAndPays c (b ∷ t) (match_in c includes (b ∷ t))
prefix_in-fair Limbo includes b t = text_prefix-fair Limbo in_limbo b t
prefix_in-fair TeX includes b t = text_prefix-fair TeX in_tex b t
prefix_in-fair (Definition begun) includes b t =
    let f = c_match in_macro true false (b ∷ t) in
    head_as-fair begun f.kind f.size b t (c_prefix-fair (Definition begun) in_macro true false b t)
prefix_in-fair Macro includes b t = macro_prefix-fair Macro b t
prefix_in-fair CText includes b t = c_prefix-fair CText in_c false includes b t
