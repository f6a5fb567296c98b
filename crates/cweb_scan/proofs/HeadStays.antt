-- Lexemes that may occur in a head.
use Rattle.cweb_scan.proofs.Common.{◌≡◌, ◌≤◌, ℕ, Bool, true, false, ◌&&◌, ◌||◌, not, List, [], ◌∷◌, length, refl, ap, sym, ◌∙◌, if◌then◌else◌, codes, prefix_len, eqb-true, Place, begins, is_blank, starts_section, in_tex, in_macro, match_in, head_match_of, head_match, Blanks, RuleMatch, rule_match, IsLine, opens_in, c_opens, opens_code, tex_opens, c_rule, c_match_by, Context, Definition, Rule, blank, enter_in, stays_in_head, directive, is_c, is_some, names_include, Applies, ReaderModel, MakesProgress, Between, next_match, ScanState, drop_definition, emit, arith}
use Rattle.cweb_rules.specs.declared.rule.Rule.TheVariants as rule
use Rattle.cweb_scan.specs.State as directives
use Rattle.cweb_scan.proofs.InLineItemSteps.{at_item, staying_at}
use Rattle.cweb_rules.specs.inner.LineItems.{opens_by}
use Rattle.cweb_rules.proofs.FirstRules.{c_opens-by}
use Rattle.cweb_scan.proofs.FirstMatchTaken.{neither}
use Rattle.cweb_store.specs.Parts as parts
use Rattle.cweb_scan.proofs.HeadSteps.{by_rule}

no_at : (is : Rule → Bool) (u : List ℕ) → is rule.Section ≡ false
    → is rule.Code ≡ false → is (c_rule false u) ≡ true → begins (codes "@") u ≡ false
no_at is [] s c h = refl
no_at is (b ∷ t) s c h = grind (arith, eqb-true, neither)

unless : (v x : Bool) → x ≡ false → (if v then false else x) ≡ false
unless true x h = refl
unless false x h = h

-- The item ends in its line.
head_closed : (is : Rule → Bool) (u : List ℕ) (r : Rule) → r ≡ c_rule false u → is r ≡ true → is rule.Section ≡ false
    → is rule.Code ≡ false → opens_by in_macro u r ≡ false → (c_opens in_macro u || tex_opens in_tex u) ≡ false
head_closed is u r same fits s c ends =
    let at : begins (codes "@") u ≡ false = no_at is u s c (ap is (sym same) ∙ fits) in
    let x : c_opens in_macro u ≡ false = c_opens-by in_macro false u ∙ ap (opens_by in_macro u) (sym same) ∙ ends in
    let y : tex_opens in_tex u ≡ false = unless (starts_section u) (if begins
    (codes "@") u then opens_code in_tex u else false) (ap (λ v. if v then opens_code in_tex u else false) at) in
    λ i. x i || y i

abbrev pub stays : Rule → Bool
stays rule.Blanks = true
stays rule.LineComment = true
stays rule.Identifier = true
stays r = false

head_is : (u : List ℕ) (r : Rule) → r ≡ c_rule false u
    → head_match u ≡ (let f = c_match_by in_macro true u r in head_match_of f.kind f u)
head_is u r is = ap (λ (f : RuleMatch). head_match_of f.kind f u) (by_rule u r is)

-- A lexeme that may occur in a head.
pub head_passes : (n : ℕ) (u : List ℕ) (h v : ReaderModel) (new : ScanState) (begun : Place) (r : Rule) (f : RuleMatch)
    → v ≡ h
    → h.item ≡ Between → h.state.context ≡ Definition begun → IsLine u → 1 ≤ length u → r ≡ c_rule false u
    → stays r ≡ true → opens_by in_macro u r ≡ false
    → (let g = c_match_by in_macro true u r in head_match_of g.kind g u) ≡ f
    → stays_in_head f.kind ≡ true → Applies f u n v.state new → MakesProgress n u h (at_item v new)
head_passes n u h v new begun r f same none in_head line some is fits ends yields_prefix stay yields =
    let s = h.state in
    let rule_match : next_match s u ≡ f =
    ap (λ (c : Context). match_in c (names_include s) u) in_head ∙ head_is u r is ∙ yields_prefix in
    let stayed : enter_in s.context (next_match s u).kind s ≡ s =
    ap (λ (g : RuleMatch). enter_in s.context g.kind s) rule_match ∙ ap (λ (c : Context). enter_in c f.kind s) in_head
    ∙ ap (λ v. if v then s else drop_definition begun s) stay in
    staying_at n u h v new f same none stayed line some rule_match
    (ap (λ (c : Context). opens_in c u) in_head ∙ head_closed stays u r is fits refl refl ends) yields

-- Blanks emit nothing.
pub blanks_pass : (n : ℕ) (u : List ℕ) (h : ReaderModel) (begun : Place) (r : Rule)
    → r ≡ rule.Blanks → h.item ≡ Between → h.state.context ≡ Definition begun → IsLine u
    → 1 ≤ length u → r ≡ c_rule false u → n ≡ prefix_len is_blank u → MakesProgress n u h h
blanks_pass n u h begun r blanks none in_head line some is size =
    let s = h.state in
    let same : s ≡ blank s = sym (ap (λ v. if (v && is_some (directive s).tokens)
    && not (directives.is_last_blank (directive s).last) then emit parts.Blank s else s) (ap is_c in_head)) in
    head_passes n u h h s begun rule.Blanks (rule_match Blanks (prefix_len is_blank u)) refl none in_head line some
    (sym blanks ∙ is) refl refl refl refl (record { size = size; state = same })
