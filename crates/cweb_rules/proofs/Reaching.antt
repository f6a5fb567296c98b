-- A delimited item ends at its first end.
use Rattle.cweb_rules.proofs.Common.{◌≡◌, ◌<◌, ℕ, zero, suc, ◌-◌, List, [], ◌∷◌, length, drop, refl, ap, subst, arith, Look, Goes, Ends, reach_in, End, look_in_control, look_in_name, look_in_comment, look_in_literal, look_in_include, look_in_raw, at_start}
use Rattle.std.proofs.Common.{inl, inr}
use Rattle.cweb_rules.specs.laws.Laws.{PassesBytes, EndsAtItsFirstEnd, ItemsEndAtTheirFirstEnd}
use Rattle.cweb_rules.specs.laws.Laws.{RulesPassBytes}
use Rattle.cweb_rules.proofs.Looks.{IsWithin, AllWithin, IsSome, AllSome, control-units, name-units, comment-units, include-units, raw-units, literal-some}

same-rest : (n : ℕ) (b : ℕ) (t : List ℕ) → 0 < n → drop (n - 1) t ≡ drop n (b ∷ t)
same-rest zero b t h = absurd (omega (arith, h))
same-rest (suc n) b t h = ap (λ k. drop k t) (let e : suc n - 1 ≡ n = omega arith in e)

at-unit : (look : List ℕ → Look) (at_end : End) (b : ℕ) (t : List ℕ) → PassesBytes look
    → ((k : ℕ) → EndsAtItsFirstEnd look at_end (drop k t) (reach_in look at_end k t)) → (v : Look) → look (b ∷ t) ≡ v
    → EndsAtItsFirstEnd look at_end (b ∷ t) (at_start look v (b ∷ t) at_end t)
at-unit look at_end b t passes later (Ends n how) e = grind (arith, inl)
at-unit look at_end b t passes later (Goes n) e = grind (arith, same-rest)

reach_in-ends : (look : List ℕ → Look) (at_end : End) → PassesBytes look → (k : ℕ) (t : List ℕ)
    → EndsAtItsFirstEnd look at_end (drop k t) (reach_in look at_end k t)
reach_in-ends look at_end passes zero [] = grind (arith, inr)
reach_in-ends look at_end passes (suc k) [] = grind (arith, inr)
reach_in-ends look at_end passes (suc k) (b ∷ t) = reach_in-ends look at_end passes k t
reach_in-ends look at_end passes zero (b ∷ t) =
    at-unit look at_end b t passes (λ k. reach_in-ends look at_end passes k t) (look (b ∷ t)) refl

pub items_end_at_their_first_end : ItemsEndAtTheirFirstEnd
items_end_at_their_first_end look at_end t passes = reach_in-ends look at_end passes 0 t

within-passes : (look : List ℕ → Look) → AllWithin look → PassesBytes look
within-passes look within b t n e = (subst (λ v. IsWithin v (length (b ∷ t))) e (within b t)).0

some-passes : (look : List ℕ → Look) → AllSome look → PassesBytes look
some-passes look some b t n e = subst IsSome e (some b t)

pub rules_pass_bytes : RulesPassBytes
rules_pass_bytes = record {
  control = within-passes look_in_control control-units;
  name = within-passes look_in_name name-units;
  comment = λ closes size. within-passes (look_in_comment closes size) (comment-units closes size);
  literal = λ quote. some-passes (look_in_literal quote) (literal-some quote);
  include = within-passes look_in_include include-units;
  raw = λ closer. within-passes (look_in_raw closer) (raw-units closer);
}
