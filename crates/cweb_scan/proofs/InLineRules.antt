-- Lexemes of macros and C text that end in their line.
use Rattle.cweb_scan.proofs.Common.{◌≡◌, ℕ, Bool, true, false, ◌&&◌, List, refl, ap, sym, ◌∙◌, if◌then◌else◌, in_macro, in_c, match_in, opens_in, c_opens, c_rule, c_match_by, Context, Macro, CText, Effect, Rule, is_c, in_open_part}
use Rattle.cweb_scan.specs.inner.MatchSteps.{ends_macro_line}
use Rattle.cweb_rules.specs.declared.rule.Rule.TheVariants as rule
use Rattle.cweb_scan.proofs.RestByLexemes.{macro_is}
use Rattle.cweb_rules.specs.inner.LineItems.{opens_by}
use Rattle.cweb_rules.proofs.FirstRules.{c_opens-by}

-- The rules of `ends_in_line`, and section starts.
abbrev pub closes : Rule → Bool
closes rule.Section = true
closes rule.Blanks = true
closes rule.LineComment = true
closes rule.Number = true
closes rule.Identifier = true
closes rule.Punctuator = true
closes rule.IncludedName = true
closes r = false

-- They don't depend on the codes' effects.
closed_prefix : (e : ℕ → Effect) (takes : Bool) (u : List ℕ) (r : Rule) → closes r ≡ true
    → (c_match_by e takes u r ≡ c_match_by in_c false u r) × (opens_by e u r ≡ false)
closed_prefix e takes u rule.LineEnd h = cc
closed_prefix e takes u rule.Comment h = cc
closed_prefix e takes u rule.Code h = cc
closed_prefix e takes u rule.RawLiteral h = cc
closed_prefix e takes u rule.Literal h = cc
closed_prefix e takes u _ h = (refl, refl)

pub rule_closed : (c : Context) (includes : Bool) (u : List ℕ) (r : Rule) → in_open_part c ≡ true
    → ends_macro_line c u ≡ false → r ≡ c_rule (is_c c && includes) u → closes r ≡ true
    → (match_in c includes u ≡ c_match_by in_c false u r) × (opens_in c u ≡ false)
rule_closed Macro includes u r part plain is h =
    let p = closed_prefix in_macro true u r h in (
      macro_is includes u plain ∙ ap (c_match_by in_macro true u) (sym is) ∙ p.0,
      ap (λ v. if v then false else c_opens in_macro u) plain
          ∙ c_opens-by in_macro false u ∙ ap (opens_by in_macro u) (sym is) ∙ p.1,
    )
rule_closed CText includes u r part plain is h = (
  ap (c_match_by in_c false u) (sym is),
  c_opens-by in_c includes u ∙ ap (opens_by in_c u) (sym is) ∙ (closed_prefix in_c false u r h).1,
)
rule_closed _ includes u r part plain is h = cc
