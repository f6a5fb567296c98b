-- C text outside directives: a blank before a lexeme.
use Rattle.cweb_scan.proofs.Common.{◌≡◌, ◌≤◌, ℕ, ◌+◌, Bool, true, false, ◌==◌, List, [], ◌∷◌, length, drop, refl, ap, sym, subst, arith, if◌then◌else◌, prefix_len, eqb-true, is_blank, IsLine, c_rule, ReaderModel, TakesPrefix, TakesPlain, ScanState, IsPlainC, drop-sum, if_true}
use Rattle.cweb_rules.specs.inner.Rules.{past_blank}
use Rattle.cweb_rules.specs.declared.rule.Rule.TheVariants as rule
use Rattle.cweb_scan.proofs.PlainLexemes.{left_line, some_goes_on, TakesSome}
use Rattle.cweb_scan.proofs.Plains.{blanks_turn}
use Rattle.cweb_scan.proofs.RestByLexemes.{takes_none}
use Rattle.cweb_scan.proofs.FirstMatchTaken.{between}

blank_first : (includes : Bool) (b : ℕ) (t : List ℕ) → is_blank b ≡ true → rule.Blanks ≡ c_rule includes (b ∷ t)
blank_first includes b t h = sym (if_true (is_blank b) rule.Blanks _ h)

-- A possibly empty span of blanks.
run_taken : (t : List ℕ) (s : ScanState) → IsLine t → IsPlainC s → TakesPlain (prefix_len is_blank t) t s s
run_taken [] s line h = record { taken = λ g. takes_none [] (between s g) }
run_taken (b ∷ t) s line h = (elim (is_blank b) as (λ v.
    is_blank b ≡ v → TakesPlain (if v then 1 + prefix_len is_blank t else 0) (b ∷ t) s s) [
      | true ↦ λ e. blanks_turn (1 + prefix_len is_blank t) (b ∷ t) s line
          (omega arith) h (blank_first _ b t e) (ap (λ v. if v then 1 + prefix_len is_blank t else 0) (sym e))
      | false ↦ λ e. record { taken = λ g. takes_none (b ∷ t) (between s g) }
    ]) refl

-- The first byte of a span that emits nothing.
first_taken : (m : ℕ) (u : List ℕ) (a : ReaderModel) → 1 ≤ length u
    → TakesPrefix (1 + m) u a a → TakesPrefix m (drop 1 u) a a → TakesPrefix 1 u a a
first_taken m u a some x y = grind (arith, drop-sum)

one_blank : (t : List ℕ) (s : ScanState) → IsLine (32 ∷ t) → IsPlainC s → TakesPlain 1 (32 ∷ t) s s
one_blank t s line h =
    let all = run_taken (32 ∷ t) s line h in
    let rest = run_taken t s line.1 h in
    record {
      taken = λ g.
          first_taken (prefix_len is_blank t) (32 ∷ t) (between s g) (omega arith) (all.taken g) (rest.taken g);
    }

pub blank_passed : (text left : List ℕ) (a b : ScanState) → IsLine text → IsPlainC b → TakesSome text left a b
    → TakesSome text (past_blank left) a b
blank_passed text [] a b line h f = f
blank_passed text (x ∷ t) a b line h f = (elim (x == 32) as (λ v.
    (x == 32) ≡ v → TakesSome text (if v then t else x ∷ t) a b) [
      | true ↦ λ e.
          let same = eqb-true x 32 e in
          let own = left_line text (x ∷ t) a b line f in
          some_goes_on 1 text (x ∷ t) t a b b refl f
          (subst (λ y. TakesPlain 1 (y ∷ t) b b) (sym same) (one_blank t b (subst (λ y. IsLine (y ∷ t)) same own) h))
      | false ↦ λ e. f
    ]) refl
