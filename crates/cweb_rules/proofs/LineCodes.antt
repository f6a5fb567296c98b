-- A control code in a line doesn't depend on the bytes after the line.
use Rattle.cweb_rules.proofs.Common.{◌≡◌, ◌≤◌, ℕ, ◌+◌, Bool, false, List, [], ◌∷◌, ◌++◌, Option, Some, None, length, drop, refl, ap, ◌∙◌, arith, if◌then◌else◌, codes, nat_lt, take-append-le, drop-append-le, length-drop, prefix_len-le-length, begins, is_gap, Effect, Named, Transliteration, Reach, reach_size, End, Closed, Cut, reach_of_name, opener_len, look_in_name, Occurrence, RuleMatch, rule_match, found_letter_match, opener_after, name_match, effect_match, code_match, AtLineEnd, opens_name, opens_effect, opens_code}
use Rattle.cweb_rules.specs.declared.effect.Effect.TheVariants as effect
use Rattle.cweb_rules.proofs.Seams.{run_line}
use Rattle.cweb_rules.proofs.Looks.{all_some, name-local, name-units}
use Rattle.cweb_rules.proofs.OverLineEnds.{ends_in_line}
use Rattle.cweb_rules.proofs.Sizes.{reach-size, name-within}
use Rattle.cweb_rules.proofs.TokenSizes.{letter-size, IsLetter}
use Rattle.cweb_rules.proofs.LineConstants.{control_text-line, constant-line, letter-line}

letter_is-line : (o : Option Transliteration) (a b : ℕ) (t more : List ℕ)
    → IsLetter o (length t) → found_letter_match o (a ∷ b ∷ t ++ more) ≡ found_letter_match o (a ∷ b ∷ t)
letter_is-line None a b t more h = refl
letter_is-line (Some l) a b t more h = grind (arith, drop-append-le, take-append-le, length-drop)

sign-line : (t more : List ℕ) → AtLineEnd more → opener_len (t ++ more) ≡ opener_len t
sign-line t more e = grind (arith, run_line is_gap t more refl e, drop-append-le, prefix_len-le-length is_gap t)

pub opener_after-line : (how : End) (t more : List ℕ) → AtLineEnd more
    → opener_after how (t ++ more) ≡ opener_after how t
opener_after-line Closed t more e = sign-line t more e
opener_after-line _ t more e = refl

abbrev named : Bool → Bool → Reach → ℕ → RuleMatch
named is_file with_opener r sign = rule_match
    (Occurrence is_file r.units r.how (nat_lt 0 sign))
    (if with_opener then (2 + reach_size r) + sign else 2 + reach_size r)

name_at-line : (with_opener : Bool) (a b : ℕ) (t more : List ℕ) → AtLineEnd more
    → opens_name (a ∷ b ∷ t) ≡ false → name_match with_opener (a ∷ b ∷ t ++ more) ≡ name_match with_opener (a ∷ b ∷ t)
name_at-line with_opener a b t more e ends =
    let r = reach_of_name t in
    let u = a ∷ b ∷ t in
    let same : reach_of_name (t ++ more) ≡ r =
    ends_in_line look_in_name t more (all_some look_in_name name-units) name-local e (λ h. cc) ends in
    let fits = reach-size look_in_name Cut name-within t in
    ap (λ (r : Reach).
    named (begins (codes "@(") u) with_opener r (opener_after r.how (drop (2 + reach_size r) (u ++ more)))) same
    ∙ ap (λ w. named (begins (codes "@(") u) with_opener r (opener_after r.how w))
    (drop-append-le (2 + reach_size r) u more (omega (arith, fits)))
    ∙ ap (λ n. named (begins (codes "@(") u) with_opener r n)
    (opener_after-line r.how (drop (2 + reach_size r) u) more e)

code_prefix-line : (c : Effect) (with_opener : Bool) (a b : ℕ) (t more : List ℕ)
    → AtLineEnd more → opens_effect c (a ∷ b ∷ t) ≡ false
    → effect_match c with_opener (a ∷ b ∷ t ++ more) ≡ effect_match c with_opener (a ∷ b ∷ t)
code_prefix-line Named with_opener a b t more e h = name_at-line with_opener a b t more e h
code_prefix-line effect.Letter with_opener a b t more e h = grind (arith, letter-line, letter_is-line, letter-size)
code_prefix-line effect.ControlText with_opener a b t more e h = cc (control_text-line t more e)
code_prefix-line effect.Verbatim with_opener a b t more e h = cc (control_text-line t more e)
code_prefix-line effect.Constant with_opener a b t more e h = cc (constant-line t more e)
code_prefix-line _ with_opener a b t more e h = refl

-- An `@` that begins no section has a byte after it in its line.
pub code_at_line : (effect : ℕ → Effect) (with_opener : Bool) (b : ℕ) (t more : List ℕ)
    → AtLineEnd more → 2 ≤ length (b ∷ t) → opens_code effect (b ∷ t) ≡ false
    → code_match effect with_opener (b ∷ t ++ more) ≡ code_match effect with_opener (b ∷ t)
code_at_line effect with_opener a [] more e two h = absurd (omega (arith, two))
code_at_line effect with_opener a (b ∷ t) more e two h = code_prefix-line (effect b) with_opener a b t more e h
