-- Lexemes that end a head.
use Rattle.cweb_scan.proofs.Common.{◌≡◌, ◌≤◌, ℕ, Bool, true, false, List, [], ◌∷◌, ◌++◌, Option, Some, None, length, drop, take, refl, ap, sym, ◌∙◌, subst, arith, if◌then◌else◌, Place, in_tex, in_macro, match_in, c_match, code_match, effect_match, head_match_of, head_match, found_letter_match, section_match, tex_match, Kind, Blanks, LineEnd, Comment, Defined, Identifier, RuleMatch, AtLineEnd, c_rule, c_match_by, Transliteration, Context, Definition, Effect, Rule, enter_in, item, stays_in_head, names_include, ReaderModel, MakesProgress, Between, lex, ScanState, drop_definition}
use Rattle.cweb_rules.specs.Constants.{letter}
use Rattle.cweb_rules.specs.declared.effect.Effect.TheVariants as effect
use Rattle.cweb_rules.specs.declared.rule.Rule.TheVariants as rule
use Rattle.cweb_rules.proofs.LineMatches.{rule_line}
use Rattle.cweb_scan.proofs.InLineItemSteps.{at_item}
use Rattle.cweb_scan.proofs.RuleSteps.{is_ended}
use Rattle.cweb_scan.proofs.TakenItems.{reading, run_as}

-- The kinds that may not occur in a head.
abbrev pub is_foreign : Kind → Bool
is_foreign Blanks = false
is_foreign LineEnd = false
is_foreign (Comment how) = false
is_foreign Identifier = false
is_foreign (Defined tight) = false
is_foreign k = true

head_text : (k : Kind) (f : RuleMatch) (t : List ℕ) → is_foreign k ≡ true → head_match_of k f t ≡ tex_match in_tex t
head_text Blanks f t h = cc
head_text _ f t h = cc

foreign_leaves : (k : Kind) → is_foreign k ≡ true → stays_in_head k ≡ false
foreign_leaves Blanks h = cc
foreign_leaves _ h = cc

either : (is : RuleMatch → Bool) (v : Bool) (x y : RuleMatch) → is x ≡ true → is y ≡ true
    → is (if v then x else y) ≡ true
either is true x y f g = f
either is false x y f g = g

abbrev pub foreign : RuleMatch → Bool
foreign f = is_foreign f.kind

foreign_section : (t : List ℕ) → foreign (section_match t) ≡ true
foreign_section t = grind (arith, either)

foreign_letter : (l : Option Transliteration) (t : List ℕ) → foreign (found_letter_match l t) ≡ true
foreign_letter None t = refl
foreign_letter (Some l) t = refl

foreign_effect : (e : Effect) (takes : Bool) (t : List ℕ) → foreign (effect_match e takes t) ≡ true
foreign_effect effect.Letter takes t = foreign_letter (letter (drop 2 t)) t
foreign_effect _ takes t = refl

foreign_code : (effect : ℕ → Effect) (takes : Bool) (t : List ℕ) → foreign (code_match effect takes t) ≡ true
foreign_code effect takes [] = refl
foreign_code effect takes (a ∷ []) = refl
foreign_code effect takes (a ∷ b ∷ t) = foreign_effect (effect b) takes (a ∷ b ∷ t)

foreign_text : (effect : ℕ → Effect) (t : List ℕ) → foreign (tex_match effect t) ≡ true
foreign_text effect t = grind (arith, either, foreign_section, foreign_code)

pub foreign_rule : (v : List ℕ) (r : Rule) → (r ≡ rule.Blanks → ⊥) → (r ≡ rule.Comment → ⊥) → (r ≡ rule.LineComment → ⊥)
    → (r ≡ rule.Identifier → ⊥) → is_ended r ≡ false → foreign (c_match_by in_macro true v r) ≡ true
foreign_rule v rule.Blanks b c l n e = absurd (b refl)
foreign_rule v rule.LineEnd b c l n e = cc
foreign_rule v rule.Comment b c l n e = absurd (c refl)
foreign_rule v rule.LineComment b c l n e = absurd (l refl)
foreign_rule v rule.Section b c l n e = foreign_section v
foreign_rule v rule.Code b c l n e = foreign_code in_macro true v
foreign_rule v rule.Identifier b c l n e = absurd (n refl)
foreign_rule v _ b c l n e = refl

pub by_rule : (v : List ℕ) (r : Rule) → r ≡ c_rule false v
    → c_match in_macro true false v ≡ c_match_by in_macro true v r
by_rule v r is = ap (c_match_by in_macro true v) (sym is)

-- A lexeme that ends a head is read as in TeX, after the definition is dropped.
dropped_run : (s : ScanState) (begun : Place) (later : List Place) (b : ℕ) (t : List ℕ)
    → s.context ≡ Definition begun → head_match (b ∷ t) ≡ tex_match in_tex (b ∷ t)
    → lex (reading (drop_definition begun s) later) (b ∷ t) ≡ lex (reading s later) (b ∷ t)
dropped_run s begun later b t in_head left =
    let u = b ∷ t in
    let f = tex_match in_tex u in
    let k = f.kind in
    let entered : enter_in s.context k s ≡ drop_definition begun s = ap (λ (c : Context). enter_in c k s) in_head
    ∙ ap (λ v. if v then s else drop_definition begun s) (foreign_leaves k (foreign_text in_tex u)) in
    run_as (reading (drop_definition begun s) later) b t f refl
    ∙ sym (ap (λ (v : ScanState). lex (item k (take f.size u) (reading v later)) (drop f.size u)) entered)
    ∙ sym (run_as (reading s later) b t f (ap (λ (c : Context). match_in c (names_include s) u) in_head ∙ left))

dropped_line : (s : ScanState) (begun : Place) (later : List Place) (u more : List ℕ) (r : Rule)
    → s.context ≡ Definition begun → 1 ≤ length u → AtLineEnd more → r ≡ c_rule false u
    → ((v : List ℕ) → foreign (c_match_by in_macro true v r) ≡ true)
    → lex (reading (drop_definition begun s) later) (u ++ more) ≡ lex (reading s later) (u ++ more)
dropped_line s begun later [] more r in_head some e is left = absurd (omega (arith, some))
dropped_line s begun later (b ∷ t) more r in_head some e is left =
    let v = b ∷ t ++ more in
    let f = c_match in_macro true false v in
    dropped_run s begun later b (t ++ more) in_head
    (head_text f.kind f v (ap foreign (by_rule v r (is ∙ sym (rule_line false b t more e))) ∙ left v))

dropped_passes : (n : ℕ) (u : List ℕ) (h v new : ReaderModel) (begun : Place) (r : Rule) → v ≡ h
    → h.item ≡ Between → h.state.context ≡ Definition begun → 1 ≤ length u → r ≡ c_rule false u
    → ((w : List ℕ) → foreign (c_match_by in_macro true w r) ≡ true)
    → MakesProgress n u (at_item v (drop_definition begun v.state)) new → MakesProgress n u h new
dropped_passes n u h v new begun r same none in_head some is left passes = grind (arith, dropped_line)

pub dropped_at : (n : ℕ) (u : List ℕ) (h v new : ReaderModel) (dropped : ScanState) (begun : Place) (r : Rule)
    → v ≡ h → h.item ≡ Between → h.state.context ≡ Definition begun → 1 ≤ length u → r ≡ c_rule false u
    → ((w : List ℕ) → foreign (c_match_by in_macro true w r) ≡ true)
    → dropped ≡ drop_definition begun v.state → MakesProgress n u (at_item v dropped) new → MakesProgress n u h new
dropped_at n u h v new dropped begun r same none in_head some is left made passes = dropped_passes
    n u h v new begun r same none in_head some is left
    (subst (λ (x : ScanState). MakesProgress n u (at_item v x) new) made passes)
