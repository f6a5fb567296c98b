-- The newlines in a lexeme, as far as its kind determines them.
use Rattle.cweb_rules.proofs.Common.{◌≡◌, ◌≢◌, ℕ, ◌+◌, Bool, true, false, ◌&&◌, List, [], ◌∷◌, ◌++◌, length, take, drop, refl, ap, sym, ◌∙◌, subst, arith, if◌then◌else◌, codes, eqb-true, begins, is_line_end, at_line_end, in_limbo, in_tex, in_macro, in_c, effect_match, code_match, tex_match, quote_of, literal_prefix, raw_prefix, delimiter, raw_closer, c_match, head_match_of, match_in, look_in_literal, look_in_raw, Kind, Skipped, Blanks, LineEnd, Comment, Identifier, RuleMatch, rule_match, IsLine, AtLineEnd, opens_effect, opens_code, tex_opens, c_opens, Context, Limbo, TeX, Definition, Macro, CText, Effect, Named, Rule, opens_by, c_rule, c_match_by}
use Rattle.cweb_rules.proofs.ItemMatchesPay.{text_prefix-fair}
use Rattle.cweb_rules.proofs.MatchesPay.{c_prefix-fair}
use Rattle.cweb_rules.proofs.InLines.{c-valid, text-valid}
use Rattle.cweb_rules.specs.declared.rule.Rule.TheVariants as rule
use Rattle.cweb_rules.proofs.FirstRules.{c_opens-by}
use Rattle.cweb_rules.proofs.LineMatches.{c_prefix_line, text_prefix_line, rule_line}
use Rattle.cweb_rules.proofs.Looks.{all_some, raw-units, literal-some}
use Rattle.cweb_rules.proofs.Seams.{starts_section_line}
use Rattle.cweb_rules.proofs.UnitNewlines.{Tells, Known, in_line-known, quoted-known}

no : {P : Type 0} → false ≡ true → P
no h = cc

pick : (t : List ℕ) (v' v : Bool) (x y : RuleMatch) (p q : Bool) → v' ≡ v → (v ≡ true → p ≡ true → Known t x)
    → (v ≡ false → q ≡ true → Known t y) → (if v then p else q) ≡ true → Known t (if v' then x else y)
pick t v' true x y p q e f g h = subst (λ w. Known t (if w then x else y)) (sym e) (f refl h)
pick t v' false x y p q e f g h = subst (λ w. Known t (if w then x else y)) (sym e) (g refl h)

code-opened : (e : Effect) (with_opener : Bool) (t u : List ℕ)
    → opens_effect e u ≡ true → Known t (effect_match e with_opener t)
code-opened Named with_opener t u h = tt
code-opened _ with_opener t u h = no h

code_at-opened : (effect : ℕ → Effect) (with_opener : Bool) (b : ℕ) (u more : List ℕ)
    → opens_code effect (b ∷ u) ≡ true → Known (b ∷ u ++ more) (code_match effect with_opener (b ∷ u ++ more))
code_at-opened effect with_opener b [] more h = no h
code_at-opened effect with_opener b (d ∷ u) more h = grind (arith, code-opened)

text-opened : (effect : ℕ → Effect) (b : ℕ) (u more : List ℕ) → AtLineEnd more
    → tex_opens effect (b ∷ u) ≡ true → Known (b ∷ u ++ more) (tex_match effect (b ∷ u ++ more))
text-opened effect b u more e h = grind (arith, pick, starts_section_line b u more e)

c-opened : (effect : ℕ → Effect) (with_opener includes : Bool) (b : ℕ) (u more : List ℕ) → AtLineEnd more
    → c_opens effect (b ∷ u) ≡ true → Known (b ∷ u ++ more) (c_match effect with_opener includes (b ∷ u ++ more))
c-opened effect with_opener includes b u more e h = subst (λ r. Known t (c_match_by effect with_opener t r))
    (sym (rule_line includes b u more e)) (by (c_rule includes w) (sym (c_opens-by effect includes w) ∙ h))
  where
    w : List ℕ
    w = b ∷ u

    t : List ℕ
    t = w ++ more

    by : (r : Rule) → opens_by effect w r ≡ true → Known t (c_match_by effect with_opener t r)
    by rule.Comment k = tt
    by rule.Code k = code_at-opened effect with_opener b u more k
    by rule.RawLiteral k =
        let m = raw_prefix t + 2 in
        let sign = raw_closer (drop m t) in
        quoted-known (look_in_raw sign) (all_some (look_in_raw sign) (raw-units sign))
        (m + length (delimiter (drop m t)) + 1) t
    by rule.Literal k =
        let n = literal_prefix t in
        let quote = quote_of (drop n t) in
        quoted-known (look_in_literal quote) (literal-some quote) (n + 1) t
    by _ k = no k

text-known : (effect : ℕ → Effect) (b : ℕ) (u more : List ℕ) → AtLineEnd more
    → IsLine (b ∷ u) → Known (b ∷ u ++ more) (tex_match effect (b ∷ u ++ more))
text-known effect b u more e l = (elim (tex_opens effect (b ∷ u))
    as (λ v. tex_opens effect (b ∷ u) ≡ v → Known (b ∷ u ++ more) (tex_match effect (b ∷ u ++ more))) [
      | true ↦ λ h. text-opened effect b u more e h
      | false ↦ λ h. subst (Known (b ∷ u ++ more)) (sym (text_prefix_line effect b u more e h))
          (in_line-known (tex_match
          effect (b ∷ u)) (b ∷ u) more l (text-valid effect (b ∷ u) l) (text_prefix-fair TeX effect b u).within)
    ]) refl

c-known : (effect : ℕ → Effect) (with_opener includes : Bool) (b : ℕ) (u more : List ℕ) → AtLineEnd more
    → IsLine (b ∷ u) → Known (b ∷ u ++ more) (c_match effect with_opener includes (b ∷ u ++ more))
c-known effect with_opener includes b u more e l = (elim (c_opens effect (b ∷ u)) as (λ v.
    c_opens effect (b ∷ u) ≡ v → Known (b ∷ u ++ more) (c_match effect with_opener includes (b ∷ u ++ more))) [
      | true ↦ λ h. c-opened effect with_opener includes b u more e h
      | false ↦ λ h. subst (Known (b ∷ u ++ more)) (sym (c_prefix_line effect with_opener includes b u more e h))
          (in_line-known (c_match effect with_opener includes (b ∷ u)) (b ∷ u) more l
          (c-valid effect with_opener includes b u l) (c_prefix-fair TeX effect with_opener includes b u).within)
    ]) refl

head-known : (k : Kind) (f : RuleMatch) (t : List ℕ) → f.kind ≡ k → Known t f
    → Known t (tex_match in_tex t) → Known t (head_match_of k f t)
head-known Blanks f t e h text = h
head-known LineEnd f t e h text = h
head-known (Comment how) f t e h text = h
head-known Identifier f t e h text = subst (λ k. Tells k (take f.size t)) e h
head-known _ f t e h text = text

in-known : (c : Context) (includes : Bool) (b : ℕ) (u more : List ℕ) → AtLineEnd more
    → IsLine (b ∷ u) → Known (b ∷ u ++ more) (match_in c includes (b ∷ u ++ more))
in-known Limbo includes b u more e l = text-known in_limbo b u more e l
in-known TeX includes b u more e l = text-known in_tex b u more e l
in-known (Definition begun) includes b u more e l =
    grind (arith, head-known, c-known in_macro true false b u more e l, text-known in_tex b u more e l)
in-known Macro includes b u more e l =
    let t = b ∷ u ++ more in
    elim (begins (codes "\\") t && at_line_end (u ++ more))
    as (λ v. Known t (if v then rule_match Skipped 1 else c_match in_macro true false t)) [
      | true ↦ tt
      | false ↦ c-known in_macro true false b u more e l
    ]
in-known CText includes b u more e l = c-known in_c false includes b u more e l

end-known : (c : Context) (includes : Bool) (t : List ℕ) → Known (10 ∷ t) (match_in c includes (10 ∷ t))
end-known Limbo includes [] = tt
end-known Limbo includes (d ∷ t) = tt
end-known TeX includes [] = tt
end-known TeX includes (d ∷ t) = tt
end-known _ includes t = refl

abbrev pub IsCut : List ℕ → List ℕ × List ℕ → Type 0
IsCut t c = (t ≡ c.0 ++ c.1) × IsLine c.0 × AtLineEnd c.1

not_ten : (b : ℕ) → is_line_end b ≡ false → b ≢ 10
not_ten b h e = let wrong : false ≡ true = sym h ∙ ap is_line_end e in cc

cut : (t : List ℕ) → (c : List ℕ × List ℕ) × IsCut t c
cut [] = (([], []), (refl, tt, tt))
cut (b ∷ t) = (elim (is_line_end b) as (λ v. is_line_end b ≡ v → (c : List ℕ × List ℕ) × IsCut (b ∷ t) c) [
  | true ↦ λ h. (([], b ∷ t), (refl, tt, eqb-true b 10 h))
  | false ↦ λ h. let r = cut t in ((b ∷ r.0.0, r.0.1), (ap (λ u. b ∷ u) r.1.0, (not_ten b h, r.1.1), r.1.2))
]) refl

at_cut : (c : Context) (includes : Bool) (b : ℕ) (t u more : List ℕ) → b ∷ t ≡ u ++ more
    → IsLine u → AtLineEnd more → Known (b ∷ t) (match_in c includes (b ∷ t))
at_cut c includes b t [] [] e l h = let wrong : length (b ∷ t) ≡ 0 = ap length e in absurd (omega (arith, wrong))
at_cut c includes b t [] (d ∷ more) e l h = grind (arith, end-known c includes more)
at_cut c includes b t (d ∷ u) more e l h = grind (arith, in-known c includes d u more h l)

pub is_known : (c : Context) (includes : Bool) (b : ℕ) (t : List ℕ) → Known (b ∷ t) (match_in c includes (b ∷ t))
is_known c includes b t = let r = cut (b ∷ t) in at_cut c includes b t r.0.0 r.0.1 r.1.0 r.1.1 r.1.2
