use Rattle.cweb_lines.proofs.Common.{◌≡◌, ◌<◌, ◌≤◌, ℕ, List, Bool, true, false, cond, eqb, get_or, length, replicate, Some, refl, sym, ap, ◌∙◌, arith, ⊎_elim, cases_lt, get_or_past, get_or-replicate, bit_at-zero, bit_mask_l, get_or-zip2, length-zip2, bit_at, mask_l, zip2, HasNoNewline, SplitsAt, ◌%◌, ◌^◌, map, take, w8, w64, length-take, bit_at-trailing_zeros, mask_l-mod, tops_compared, trailing_zeros, top}
use Rattle.cweb_lines.proofs.Newlines.{newline_at-memchr, no_newline}
use Rattle.cweb_lines.proofs.cut.newline_near.Goals as goal

one_true : (b : Bool) → cond {A = ℕ} b 1 0 ≡ 1 → b ≡ true
one_true true h = refl
one_true false h = absurd (omega (arith, h))

-- The bit mask of the newlines among 32 bytes.
module _ (v : List ℕ) (long : length v ≡ 32) where
  abbrev lanes : List Bool
  lanes = zip2 eqb v (replicate 32 10)

  is_known : (k : ℕ) → k < 32 → bit_at (mask_l lanes) k ≡ cond (eqb (get_or v k 0) 10) 1 0
  is_known k lt = bit_mask_l lanes k
      ∙ ap (λ (b : Bool). cond b 1 0) (get_or-zip2 eqb v (replicate 32 10) k 0 0 false (omega (arith, long, lt)) lt
      ∙ ap (eqb (get_or v k 0)) (get_or-replicate 32 k 10 0 lt))

  beyond : (k : ℕ) → 32 ≤ k → bit_at (mask_l lanes) k ≡ 0
  beyond k ge = grind (arith, bit_mask_l, get_or_past, length-zip2)

  none_marked : mask_l lanes ≡ 0 → HasNoNewline v
  none_marked none = no_newline v (λ k lt is.
      let bit : bit_at 0 k ≡ 1 =
      ap (λ m. bit_at m k) (sym none) ∙ is_known k (omega (arith, lt, long)) ∙ ap (λ n. cond (eqb n 10) 1 0) is in
      absurd (omega (arith, bit, bit_at-zero k)))

  first_marked : (at : ℕ) → bit_at (mask_l lanes) at ≡ 1
      → ((k : ℕ) → k < at → bit_at (mask_l lanes) k ≡ 0) → SplitsAt v at
  first_marked at set clear =
      let near : at < 32 = ⊎_elim (λ l. l) (λ ge. absurd (omega (arith, set, beyond at ge))) (cases_lt at 32) in
      newline_at-memchr v (Some at) (
        record {
          low = omega arith;
          high = omega (arith, long, near);
          before = λ k low high passes.
              let bit : bit_at (mask_l lanes) k ≡ 1 =
              is_known k (omega (arith, high, near)) ∙ ap (λ (b : Bool). cond b 1 0) passes in
              absurd (omega (arith, bit, clear k high));
        },
        one_true _ (sym (is_known at near) ∙ set),
      )

abbrev mask : List ℕ → ℕ
mask v = mask_l (map (top 7) (zip2 (λ a b. cond (eqb a b) 255 0) v (replicate 32 10))) % 2 ^ 64

mask_is : (v : List ℕ) → length v ≡ 32 → mask v ≡ mask_l (zip2 eqb v (replicate 32 10))
mask_is v long = ap (λ (ms : List Bool). mask_l ms % 2 ^ 64) (tops_compared w8 eqb v (replicate 32 10))
    ∙ mask_l-mod (zip2 eqb v (replicate 32 10)) 64 (omega (arith, length-zip2 eqb v (replicate 32 10) long, long))

pub returns-then-marked-eq0 : goal.returns-then-marked-eq0
returns-then-marked-eq0 c =
    let v = take 32 c.args.bytes.now in
    let long : length v ≡ 32 = omega (arith, length-take 32 c.args.bytes.now, c.requires) in
    none_marked v long (sym (mask_is v long) ∙ c.if-marked-eq0.true)

pub returns : goal.returns
returns c =
    let v = take 32 c.args.bytes.now in
    let long : length v ≡ 32 = omega (arith, length-take 32 c.args.bytes.now, c.requires) in
    let same = mask_is v long in
    let h = bit_at-trailing_zeros w64 (mask v) (omega (arith, c.if-marked-eq0.false)) (omega arith) in
    let at = trailing_zeros w64 (mask v) in
    first_marked v long at (ap (λ n. bit_at n at) (sym same) ∙ h.1) (λ k lt. ap (λ n. bit_at n k) (sym same) ∙ h.2 k lt)
