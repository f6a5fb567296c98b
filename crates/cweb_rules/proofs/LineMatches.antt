-- A lexeme that ends in its line doesn't depend on the bytes after it.
use Rattle.cweb_rules.proofs.Common.{arith, ◌≡◌, ◌≤◌, ℕ, Bool, true, false, ◌&&◌, ◌||◌, List, ◌∷◌, ◌++◌, length, refl, ap, ◌∙◌, if◌then◌else◌, codes, Place, begins, is_blank, is_digit, is_word_byte, at_line_end, Effect, in_limbo, in_tex, in_macro, in_c, Kind, Blanks, LineEnd, Comment, Identifier, Numeral, Punctuator, RuleMatch, rule_match, section_match, tex_match, c_match, macro_match, head_match_of, head_match, AtLineEnd, tex_opens, c_opens, macro_opens, opens_in, match_in, Context, Limbo, TeX, Definition, Macro, CText, listed, continues_number, or_parts, Rule, opens_by, c_rule, c_match_by, sym}
use Rattle.cweb_rules.specs.declared.rule.Rule.TheVariants as rule
use Rattle.cweb_rules.proofs.FirstRules.{IsFirst, first_rule, c_opens-by}
use Rattle.cweb_rules.proofs.MatchesPay.{c_prefix-fair}
use Rattle.cweb_rules.proofs.LineComments.{comment_at_line, line_comment_at_line}
use Rattle.cweb_rules.proofs.LineCodes.{code_at_line}
use Rattle.cweb_rules.proofs.LineLiterals.{starts_literal_line, literal_at_line}
use Rattle.cweb_rules.proofs.LineDelimiters.{starts_raw_line, raw_at_line, starts_include_line, include_at_line}
use Rattle.cweb_rules.proofs.Looks.{at_fits}
use Rattle.cweb_rules.proofs.Seams.{in_line, stops, begins_line, drop_line, run_line, number_stop, starts_number_stop, longest_stop, at_line_end_line, starts_section_line}
use Rattle.cweb_rules.proofs.Sizes.{begins-size}

step : (v' v : Bool) (x' x y' y : RuleMatch) (p q : Bool) → v' ≡ v → (v ≡ true → p ≡ false → x' ≡ x)
    → (v ≡ false → q ≡ false → y' ≡ y) → (if v then p else q) ≡ false → (if v' then x' else y') ≡ (if v then x else y)
step v' true x' x y' y p q e f g h = ap (λ w. if w then x' else y') e ∙ f refl h
step v' false x' x y' y p q e f g h = ap (λ w. if w then x' else y') e ∙ g refl h

section_at_line : (t more : List ℕ) → AtLineEnd more → section_match (t ++ more) ≡ section_match t
section_at_line t more e = grind arith

pub text_prefix_line : (effect : ℕ → Effect) (b : ℕ) (t more : List ℕ) → AtLineEnd more
    → tex_opens effect (b ∷ t) ≡ false → tex_match effect (b ∷ t ++ more) ≡ tex_match effect (b ∷ t)
text_prefix_line effect b t more e h =
    grind (arith, step, starts_section_line, section_at_line, begins_line, code_at_line, at_fits)

-- The rule in a line doesn't depend on the bytes after it.
pub rule_line : (includes : Bool) (b : ℕ) (t more : List ℕ) → AtLineEnd more
    → c_rule includes (b ∷ t ++ more) ≡ c_rule includes (b ∷ t)
rule_line includes b t more e = rw (
  begins_line (codes "/*") (b ∷ t) more refl e,
  begins_line (codes "//") (b ∷ t) more refl e,
  starts_section_line b t more e,
  begins_line (codes "@") (b ∷ t) more refl e,
  starts_raw_line (b ∷ t) more e,
  starts_literal_line (b ∷ t) more e,
  starts_include_line b t more e,
  starts_number_stop b t more (stops is_digit more refl e),
)

pub c_prefix_line : (effect : ℕ → Effect) (with_opener includes : Bool) (b : ℕ) (t more : List ℕ)
    → AtLineEnd more → c_opens effect (b ∷ t) ≡ false
    → c_match effect with_opener includes (b ∷ t ++ more) ≡ c_match effect with_opener includes (b ∷ t)
c_prefix_line effect with_opener includes b t more e h =
    ap (c_match_by effect with_opener (u ++ more)) (rule_line includes b t more e)
    ∙ by (c_rule includes u) (first_rule includes u) (sym (c_opens-by effect includes u) ∙ h)
  where
    u : List ℕ
    u = b ∷ t

    by : (r : Rule) → IsFirst includes u r → opens_by effect u r ≡ false
        → c_match_by effect with_opener (u ++ more) r ≡ c_match_by effect with_opener u r
    by rule.Blanks f p = ap (rule_match Blanks) (run_line is_blank u more refl e)
    by rule.LineEnd f p = refl
    by rule.Comment f p = comment_at_line u more e (begins-size (codes "/*") u f.1) p
    by rule.LineComment f p = line_comment_at_line u more e (begins-size (codes "//") u f.1)
    by rule.Section f p = section_at_line u more e
    by rule.Code f p = code_at_line effect with_opener b t more e (at_fits b t f.0 f.1) p
    by rule.RawLiteral f p = raw_at_line u more e f.1 p
    by rule.Literal f p = literal_at_line u more e f.2 p
    by rule.IncludedName f p = include_at_line b t more e
    by rule.Number f p = ap (rule_match Numeral) (number_stop 0 u more (λ last.
        stops (continues_number last) more refl e))
    by rule.Identifier f p = ap (rule_match Identifier) (run_line is_word_byte u more refl e)
    by rule.Punctuator f p = ap (rule_match Punctuator) (longest_stop in_line listed u more refl
        (stops in_line more refl e))

macro_prefix_line : (b : ℕ) (t more : List ℕ) → AtLineEnd more
    → macro_opens (b ∷ t) ≡ false → macro_match (b ∷ t ++ more) ≡ macro_match (b ∷ t)
macro_prefix_line b t more e h =
    step (begins (codes "\\") (b ∷ t ++ more) && at_line_end (t ++ more)) (begins (codes "\\") (b ∷ t) && at_line_end t)
    _ _ _ _ false (c_opens in_macro (b ∷ t)) (λ i. begins_line (codes "\\") (b ∷ t) more refl e i
    && at_line_end_line t more e i) (λ v p. refl) (λ v q. c_prefix_line in_macro true false b t more e q) h

head_as_line : (k : Kind) (f : RuleMatch) (b : ℕ) (t more : List ℕ) → AtLineEnd more → f.size ≤ length (b ∷ t)
    → tex_opens in_tex (b ∷ t) ≡ false → head_match_of k f (b ∷ t ++ more) ≡ head_match_of k f (b ∷ t)
head_as_line Blanks f b t more e fits h = refl
head_as_line LineEnd f b t more e fits h = refl
head_as_line (Comment how) f b t more e fits h = refl
head_as_line Identifier f b t more e fits h = cc (drop_line (codes "(") f.size (b ∷ t) more refl e fits)
head_as_line _ f b t more e fits h = text_prefix_line in_tex b t more e h

head_prefix_line : (begun : Place) (b : ℕ) (t more : List ℕ) → AtLineEnd more
    → (c_opens in_macro (b ∷ t) || tex_opens in_tex (b ∷ t)) ≡ false → head_match (b ∷ t ++ more) ≡ head_match (b ∷ t)
head_prefix_line begun b t more e h =
    grind (
      arith,
      or_parts (c_opens in_macro (b ∷ t)) (tex_opens in_tex (b ∷ t)) h,
      c_prefix-fair (Definition begun) in_macro true false b t,
      c_prefix_line in_macro true false b t more e,
      head_as_line,
    )

pub prefix_line : (c : Context) (includes : Bool) (b : ℕ) (t more : List ℕ) → AtLineEnd more
    → opens_in c (b ∷ t) ≡ false → match_in c includes (b ∷ t ++ more) ≡ match_in c includes (b ∷ t)
prefix_line Limbo includes b t more e h = text_prefix_line in_limbo b t more e h
prefix_line TeX includes b t more e h = text_prefix_line in_tex b t more e h
prefix_line (Definition begun) includes b t more e h = head_prefix_line begun b t more e h
prefix_line Macro includes b t more e h = macro_prefix_line b t more e h
prefix_line CText includes b t more e h = c_prefix_line in_c false includes b t more e h
