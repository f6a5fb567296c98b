-- C text outside directives: consecutive lexemes.
use Rattle.cweb_scan.proofs.Common.{◌≡◌, ◌≤◌, ℕ, ◌+◌, ◌-◌, ◌*◌, false, List, Option, Some, None, length, drop, ap, sym, ◌∙◌, subst, arith, length-drop, IsLine, TakesPrefix, TakesPlain, weight, ScanState, IsLine-drop, drop-sum}
use Rattle.cweb_scan.specs.inner.MatchSteps.{taken_size}
use Rattle.cweb_scan.proofs.RestByLexemes.{takes_both}
use Rattle.cweb_scan.proofs.FirstMatchTaken.{between}

-- The bytes before the rest were taken.
pub record TakesSome (text left : List ℕ) (old new : ScanState) : Type 0 where
  pub left_is : left ≡ drop (length text - length left) text
  pub taken : TakesPlain (length text - length left) text old new
  pub within : length left ≤ length text
  pub room : weight new + 3 * length left ≤ weight old + 3 * length text

pub some_goes_on : (m : ℕ) (text left after : List ℕ) (a b c : ScanState) → after ≡ drop m left
    → TakesSome text left a b → TakesPlain m left b c → TakesSome text after a c
some_goes_on m text left after a b c is f t =
    let n = length text - length left in
    let one = t.taken false in
    let size = ap (λ (u : List ℕ). length u) is in
    let all : n + m ≡ length text - length after = omega (arith, size, length-drop m left, one.within, f.within) in
    record {
      left_is = is ∙ ap (drop m) f.left_is ∙ sym (drop-sum n m text) ∙ ap (λ k. drop k text) all;
      taken = subst (λ k. TakesPlain k text a c) all (record {
        taken = λ g. takes_both n m text (between a g) (between b g) (between c g) (f.taken.taken g)
            (subst (λ (u : List ℕ). TakesPrefix m u (between b g) (between c g)) f.left_is (t.taken g));
      });
      within = omega (arith, size, length-drop m left, f.within);
      room = omega (arith, size, length-drop m left, one.within, one.adds, f.room);
    }

pub piece_within : (n : ℕ) (u : List ℕ) (a b : ScanState) → TakesPlain n u a b → n ≤ length u
piece_within n u a b t = (t.taken false).within

pub left_line : (text left : List ℕ) (a b : ScanState) → IsLine text → TakesSome text left a b → IsLine left
left_line text left a b line f = subst IsLine (sym f.left_is) (IsLine-drop (length text - length left) text line)

-- An empty lexeme ends the run.
pub some_ended : (text left : List ℕ) (a b c : ScanState) → TakesSome text left a b
    → TakesPlain 0 left b c → TakesPlain (length text - length left) text a c
some_ended text left a b c f t =
    let n = length text - length left in
    let same : n + 0 ≡ n = omega arith in
    record {
      taken = λ g.
          let all = takes_both n 0 text (between a g) (between b g) (between c g) (f.taken.taken g)
          (subst (λ (u : List ℕ). TakesPrefix 0 u (between b g) (between c g)) f.left_is (t.taken g)) in
          subst (λ k. TakesPrefix k text (between a g) (between c g)) same all;
    }

-- A lexeme that was found, or none.
pub some_taken : (n : ℕ) (o : Option ℕ) (u : List ℕ) (a b : ScanState) → o ≡ Some n → TakesPlain (taken_size o) u a b
    → TakesPlain n u a b
some_taken n o u a b is t = subst (λ p. TakesPlain (taken_size p) u a b) is t

pub none_taken : (o : Option ℕ) (u : List ℕ) (a b : ScanState) → o ≡ None → TakesPlain (taken_size o) u a b
    → TakesPlain 0 u a b
none_taken o u a b is t = subst (λ p. TakesPlain (taken_size p) u a b) is t
