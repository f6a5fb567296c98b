-- Which rule of C text was applied, by the kind of the lexeme.
use Rattle.cweb_rules.proofs.Common.{◌≡◌, ℕ, Bool, true, false, List, [], ◌∷◌, Option, Some, None, sym, subst, codes, drop, is_word_byte, begins, first_is, starts_section, in_c, Effect, Named, letter, Transliteration, Kind, Code, Section, Quoted, Identifier, Numeral, Punctuator, RuleMatch, starts_number, found_letter_match, effect_match, code_match, starts_literal, starts_raw, c_match, c_match_by, c_rule, IsPast}
use Rattle.cweb_rules.specs.declared.effect.Effect.TheVariants as effect
use Rattle.cweb_rules.specs.declared.rule.Rule as rules
use Rattle.cweb_rules.specs.declared.rule.Rule.TheVariants as rule
use Rattle.cweb_rules.proofs.FirstBytes.{known_if}
use Rattle.cweb_rules.proofs.FirstRules.{IsFirst, first_rule}

pub data Rule : Type 0 where
  ForLiteral ForWord ForNumber ForPunct ForCode Other : Rule

abbrev pub rule_of : Kind → Rule
rule_of k =
    elim k [
      | Quoted units how ↦ ForLiteral
      | Identifier ↦ ForWord
      | Numeral ↦ ForNumber
      | Punctuator ↦ ForPunct
      | Code effect ↦ ForCode
      | _ ↦ Other
    ]

abbrev pub Opens : List ℕ → Bool → Type 0
Opens t true = starts_raw t ≡ true
Opens t false = (starts_raw t ≡ false) × (starts_literal t ≡ true)

abbrev pub Coded : List ℕ → Type 0
Coded t = (starts_section t ≡ false) × (begins (codes "@") t ≡ true)

abbrev pub Facts : List ℕ → Rule → Type 0
Facts t ForLiteral = IsPast t × Opens t (starts_raw t)
Facts t ForNumber = (IsPast t × (starts_raw t ≡ false)) × (starts_literal t ≡ false) × (starts_number t ≡ true)
Facts t ForWord = (IsPast t × (starts_raw t ≡ false)) ×
    (starts_literal t ≡ false) × (starts_number t ≡ false) × (first_is is_word_byte t ≡ true)
Facts t ForPunct = (IsPast t × (starts_raw t ≡ false)) ×
    (starts_literal t ≡ false) × (starts_number t ≡ false) × (first_is is_word_byte t ≡ false)
Facts t ForCode = Coded t
Facts t Other = Unit {0}

letter_facts : (o : Option Transliteration) (t u : List ℕ) → Coded u → Facts u (rule_of (found_letter_match o t).kind)
letter_facts None t u h = h
letter_facts (Some l) t u h = tt

effect_facts : (e : Effect) (t u : List ℕ) → Coded u → Facts u (rule_of (effect_match e false t).kind)
effect_facts Named t u h = tt
effect_facts effect.Letter t u h = letter_facts (letter (drop 2 t)) t u h
effect_facts effect.ControlText t u h = tt
effect_facts effect.Verbatim t u h = tt
effect_facts effect.Constant t u h = tt
effect_facts _ t u h = h

code_facts : (t : List ℕ) → Coded t → Facts t (rule_of (code_match in_c false t).kind)
code_facts [] h = tt
code_facts (a ∷ []) h = tt
code_facts (a ∷ b ∷ t) h = effect_facts (in_c b) (a ∷ b ∷ t) (a ∷ b ∷ t) h

pub chosen : (t : List ℕ) → Facts t (rule_of (c_match in_c false false t).kind)
chosen t = by (c_rule false t) (first_rule false t)
  where
    by : (r : rules.Rule) → IsFirst false t r → Facts t (rule_of (c_match_by in_c false t r).kind)
    by rule.Section f = known_if (λ (m : RuleMatch). Facts t (rule_of m.kind)) (begins (codes "@*") t) _ _ (λ e. tt)
        (λ e. tt)
    by rule.Code f = code_facts t f
    by rule.RawLiteral f = (f.0, subst (Opens t) (sym f.1) f.1)
    by rule.Literal f = (f.0, subst (Opens t) (sym f.1) (f.1, f.2))
    by rule.IncludedName f = cc
    by rule.Number f = f
    by rule.Identifier f = f
    by rule.Punctuator f = f
    by _ f = tt
