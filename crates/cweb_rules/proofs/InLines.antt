-- A lexeme of a line has no newline.
use Rattle.cweb_rules.proofs.Common.{arith, ◌≡◌, ℕ, zero, suc, ◌+◌, ◌-◌, Bool, true, false, ◌&&◌, List, [], ◌∷◌, ◌++◌, Option, Some, None, length, take, drop, sym, ◌∙◌, codes, ne_eqb, begins, at_line_end, starts_section, Effect, Named, in_limbo, in_tex, in_macro, in_c, letter, Transliteration, Look, Goes, Ends, reach, reach_in, body, End, Cut, look_in_literal, look_in_include, look_in_raw, Kind, Blanks, LineEnd, Comment, Quoted, Identifier, RuleMatch, section_match, found_letter_match, name_match, effect_match, code_match, tex_match, literal_prefix, quoted_match, quote_of, raw_prefix, delimiter, raw_closer, c_match, head_match_of, IsLine, match_in, Context, Limbo, TeX, Definition, Macro, CText, c_rule, c_match_by, Rule, at_start}
use Rattle.cweb_rules.specs.declared.effect.Effect.TheVariants as effect
use Rattle.cweb_rules.specs.declared.rule.Rule.TheVariants as rule
use Rattle.cweb_rules.proofs.FirstBytes.{known_if}
use Rattle.cweb_rules.proofs.FirstRules.{IsFirst, first_rule}

abbrev pub AreLines : List (List ℕ) → Type 0
AreLines [] = Unit {0}
AreLines (u ∷ us) = IsLine u × AreLines us

abbrev pub InLine : Kind → List ℕ → Type 0
InLine LineEnd bytes = ⊥
InLine (Quoted us how) bytes = AreLines us
InLine k bytes = IsLine bytes

pub IsLine-take : (n : ℕ) (t : List ℕ) → IsLine t → IsLine (take n t)
IsLine-take zero t h = tt
IsLine-take (suc n) [] h = tt
IsLine-take (suc n) (b ∷ t) h = (h.0, IsLine-take n t h.1)

lines_at : (look : List ℕ → Look) (e : End) (v : Look) (u t : List ℕ) → IsLine u
    → ((k : ℕ) → AreLines (reach_in look e k t).units) → AreLines (at_start look v u e t).units
lines_at look e (Goes n) u t h f = (IsLine-take n u h, f (n - 1))
lines_at look e (Ends n how) u t h f = tt

lines_in : (look : List ℕ → Look) (e : End) (k : ℕ) (t : List ℕ) → IsLine t → AreLines (reach_in look e k t).units
lines_in look e k [] h = tt
lines_in look e (suc k) (b ∷ t) h = lines_in look e k t h.1
lines_in look e zero (b ∷ t) h = lines_at look e (look (b ∷ t)) (b ∷ t) t h (λ k. lines_in look e k t h.1)

pub units-lines : (look : List ℕ → Look) (e : End) (t : List ℕ) → IsLine t → AreLines (reach look e t).units
units-lines look e t h = lines_in look e 0 t h

abbrev Valid : List ℕ → RuleMatch → Type 0
Valid t f = InLine f.kind (take f.size t)

pub IsLine-drop : (n : ℕ) (t : List ℕ) → IsLine t → IsLine (drop n t)
IsLine-drop zero t h = h
IsLine-drop (suc n) [] h = tt
IsLine-drop (suc n) (b ∷ t) h = IsLine-drop n t h.1

section-valid : (t : List ℕ) → IsLine t → Valid t (section_match t)
section-valid t h = known_if (Valid t) (begins (codes "@*") t) _ _ (λ e. IsLine-take 2 t h) (λ e. IsLine-take 1 t h)

letter-valid : (o : Option Transliteration) (t : List ℕ) → IsLine t → Valid t (found_letter_match o t)
letter-valid None t h = IsLine-take 2 t h
letter-valid (Some l) t h = IsLine-take (2 + (l.start + l.size)) t h

code-valid : (e : Effect) (with_opener : Bool) (t : List ℕ) → IsLine t → Valid t (effect_match e with_opener t)
code-valid Named with_opener t h = IsLine-take (name_match with_opener t).size t h
code-valid effect.Letter with_opener t h = letter-valid (letter (drop 2 t)) t h
code-valid effect.ControlText with_opener t h = IsLine-take (effect_match effect.ControlText with_opener t).size t h
code-valid effect.Verbatim with_opener t h = IsLine-take (effect_match effect.Verbatim with_opener t).size t h
code-valid effect.Constant with_opener t h = IsLine-take (effect_match effect.Constant with_opener t).size t h
code-valid _ with_opener t h = IsLine-take 2 t h

code_at-valid : (effect : ℕ → Effect) (with_opener : Bool) (t : List ℕ)
    → IsLine t → Valid t (code_match effect with_opener t)
code_at-valid effect with_opener [] h = tt
code_at-valid effect with_opener (a ∷ []) h = h
code_at-valid effect with_opener (a ∷ b ∷ t) h = code-valid (effect b) with_opener (a ∷ b ∷ t) h

pub text-valid : (effect : ℕ → Effect) (t : List ℕ) → IsLine t → Valid t (tex_match effect t)
text-valid effect t h = known_if (Valid t) (starts_section t) _ _ (λ e. section-valid t h) (λ s.
    known_if (Valid t) (begins (codes "@") t) _ _ (λ e. code_at-valid effect true t h) (λ e. IsLine-take 1 t h))

lines-append : (us : List (List ℕ)) (u : List ℕ) → AreLines us → IsLine u → AreLines (us ++ u ∷ [])
lines-append [] u h k = (k, tt)
lines-append (v ∷ us) u h k = (h.0, lines-append us u h.1 k)

quoted-valid : (look : List ℕ → Look) (n : ℕ) (t : List ℕ)
    → IsLine t → Valid t (quoted_match n (reach look Cut (drop n t)) t)
quoted-valid look n t h =
    let r = reach look Cut (drop n t) in
    let m = n + length (body r) in (
      IsLine-take n t h,
      lines-append r.units (take r.close (drop m t)) (units-lines look Cut (drop n t) (IsLine-drop n t h))
          (IsLine-take r.close (drop m t) (IsLine-drop m t h)),
    )

pub c-valid : (effect : ℕ → Effect) (with_opener includes : Bool) (b : ℕ) (t : List ℕ)
    → IsLine (b ∷ t) → Valid (b ∷ t) (c_match effect with_opener includes (b ∷ t))
c-valid effect with_opener includes b t h = by (c_rule includes u) (first_rule includes u)
  where
    u : List ℕ
    u = b ∷ t

    by : (r : Rule) → IsFirst includes u r → Valid u (c_match_by effect with_opener u r)
    by rule.LineEnd f = let wrong : true ≡ false = sym f ∙ ne_eqb b 10 h.0 in cc
    by rule.Section f = section-valid u h
    by rule.Code f = code_at-valid effect with_opener u h
    by rule.RawLiteral f =
        let m = raw_prefix u + 2 in
        quoted-valid (look_in_raw (raw_closer (drop m u))) (m + length (delimiter (drop m u)) + 1) u h
    by rule.Literal f = quoted-valid (look_in_literal (quote_of (drop (literal_prefix u) u))) (literal_prefix u + 1) u h
    by rule.IncludedName f = quoted-valid look_in_include 1 u h
    by _ f = IsLine-take _ u h

head-valid : (k : Kind) (f : RuleMatch) (t : List ℕ) → IsLine t → f.kind ≡ k → Valid t f
    → Valid t (head_match_of k f t)
head-valid Blanks f t h e s = s
head-valid LineEnd f t h e s = s
head-valid (Comment how) f t h e s = s
head-valid Identifier f t h e s = IsLine-take f.size t h
head-valid _ f t h e s = text-valid in_tex t h

pub valid : (c : Context) (includes : Bool) (b : ℕ) (t : List ℕ)
    → IsLine (b ∷ t) → Valid (b ∷ t) (match_in c includes (b ∷ t))
valid Limbo includes b t h = text-valid in_limbo (b ∷ t) h
valid TeX includes b t h = text-valid in_tex (b ∷ t) h
valid (Definition begun) includes b t h = grind (arith, head-valid, c-valid in_macro true false b t h)
valid Macro includes b t h = known_if (Valid (b ∷ t)) (begins (codes "\\") (b ∷ t) && at_line_end t) _ _
    (λ v. IsLine-take 1 (b ∷ t) h) (λ v. c-valid in_macro true false b t h)
valid CText includes b t h = c-valid in_c false includes b t h
