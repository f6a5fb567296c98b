-- Blanks between two lexemes of C text.
use Rattle.cweb_scan.proofs.Common.{◌≡◌, ℕ, suc, Bool, true, false, ◌&&◌, List, [], ◌∷◌, drop, take, refl, ap, sym, ◌∙◌, arith, if◌then◌else◌, not, prefix_len, is_blank, match_in, Blanks, rule_match, Context, CText, Blank, Reading, after_lexeme, blank, enter_in, directive, in_directive, names_include, lex, ScanState, emit, if_true, in_c, c_match_by}
use Rattle.cweb_rules.specs.declared.rule.Rule.TheVariants as rule
use Rattle.cweb_scan.specs.State as spec
use Rattle.cweb_scan.proofs.TakenItems.{run_as}

blank_prefix : (c : Context) (includes : Bool) (b : ℕ) (t : List ℕ) → c ≡ CText → is_blank b ≡ true
    → match_in c includes (b ∷ t) ≡ rule_match Blanks (prefix_len is_blank (b ∷ t))
blank_prefix c includes b t h e = ap (λ c. match_in c includes (b ∷ t)) h
    ∙ ap (c_match_by in_c false (b ∷ t)) (if_true (is_blank b) rule.Blanks _ e)

longer_prefix : (b : ℕ) (t : List ℕ) → is_blank b ≡ true → prefix_len is_blank (b ∷ t) ≡ suc (prefix_len is_blank t)
longer_prefix b t e = grind (arith, e)

no_blank : (s : ScanState) → in_directive s ≡ false → blank s ≡ s
no_blank s h = ap (λ v. if v && not (spec.is_last_blank (directive s).last) then emit Blank s else s) h

-- Leading blanks emit nothing.
passed : (r : Reading) (b : ℕ) (t : List ℕ) → r.state.context ≡ CText → in_directive r.state ≡ false
    → is_blank b ≡ true → lex r (b ∷ t) ≡ lex r (drop (prefix_len is_blank t) t)
passed r b t h d e =
    let n = prefix_len is_blank t in
    run_as r b t (rule_match Blanks (prefix_len is_blank (b ∷ t)))
    (blank_prefix r.state.context (names_include r.state) b t h e)
    ∙ ap (λ k. lex (after_lexeme r (record { kind = Blanks; bytes = take k (b ∷ t) })) (drop k (b ∷ t)))
    (longer_prefix b t e)
    ∙ ap (λ c. lex (record { state = blank (enter_in c Blanks r.state); later = r.later }) (drop n t)) h
    ∙ ap (λ s. lex (record { state = s; later = r.later }) (drop n t)) (no_blank r.state d)

-- One blank more changes nothing.
pub one_more : (r : Reading) (b : ℕ) (t : List ℕ) → r.state.context ≡ CText
    → in_directive r.state ≡ false → is_blank b ≡ true → lex r (b ∷ t) ≡ lex r t
one_more r b [] h d e = passed r b [] h d e
one_more r b (c ∷ t) h d e = passed r b (c ∷ t) h d e
    ∙ (elim (is_blank c) as (λ v. is_blank c ≡ v → lex r (drop (prefix_len is_blank (c ∷ t)) (c ∷ t)) ≡ lex r (c ∷ t)) [
      | true ↦ λ f. ap (λ k. lex r (drop k (c ∷ t))) (longer_prefix c t f) ∙ sym (passed r c t h d f)
      | false ↦ λ f. ap (λ k. lex r (drop k (c ∷ t))) (none_there c t f)
    ]) refl
  where
    none_there : (b : ℕ) (t : List ℕ) → is_blank b ≡ false → prefix_len is_blank (b ∷ t) ≡ 0
    none_there b t f = grind (arith, f)
