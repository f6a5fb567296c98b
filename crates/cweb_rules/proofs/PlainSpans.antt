-- Spans of plain bytes.
use Rattle.cweb_rules.proofs.Common.{◌≡◌, ◌<◌, ℕ, ◌+◌, suc, ◌++◌, ◌∙◌, Open, is_unclosed, Bool, true, false, cond, not, ◌==◌, List, [], ◌∷◌, Option, Some, None, length, drop, get_or, refl, ap, sym, arith, prefix_len, unwrap_or, ne_eqb, eqb-false, prefix_len_is, IsFirstByte, at_line_end, reach, look_in_control, look_in_name, look_in_comment, look_in_literal, look_in_include, look_in_raw, look_of, reached, is_raw_special, is_special, is_plain, End, Item, Name, LineComment, Literal, IncludedName, RawLiteral, Look, Goes, not-true, or_parts, min, ◌≤◌, begins, Closed, at_start}
use Rattle.cweb_rules.specs.declared.items.Item.TheVariants.{ControlText, Comment}
use Rattle.cweb_rules.proofs.Ranges.{later_by, later_by-zero, reach_goes}
use Rattle.cweb_rules.proofs.TokensStay.{no_section}
use Rattle.cweb_rules.specs.inner.LineItems.{goes_on}
use Rattle.cweb_rules.proofs.OverLineEnds.{newline}

not_passed : (b : Bool) → (b ≡ true → ⊥) → not b ≡ true
not_passed true h = absurd (h refl)
not_passed false h = refl

pub before_first : (test : ℕ → Bool) (xs : List ℕ) (r : Option ℕ) → IsFirstByte test xs r
    → unwrap_or r (length xs) ≡ prefix_len (λ b. not (test b)) xs
before_first test xs None none = sym (prefix_len_is (λ b. not (test b)) xs (length xs) 0 (omega arith)
    (λ k lt. not_passed (test (get_or xs k 0)) (none k (omega arith) lt)) (λ lt. absurd (omega (arith, lt))))
before_first test xs (Some at) first = grind (arith, prefix_len_is, not_passed)

pub turned : (a b : ℕ) → (b == a) ≡ false → (a == b) ≡ false
turned a b h = ne_eqb a b (λ e. eqb-false b a h (sym e))

control_goes : (b : ℕ) (t : List ℕ) → (64 == b) ≡ false → (b == 10) ≡ false → look_in_control (b ∷ t) ≡ Goes 1
control_goes b t at line = cc

name_goes : (b : ℕ) (t : List ℕ) → (b == 64) ≡ false → look_in_name (b ∷ t) ≡ Goes 1
name_goes b t h = cc (turned 64 b h, no_section b t h)

comment_goes : (closes : List ℕ → Bool) (n b : ℕ) (t : List ℕ) → closes (b ∷ t) ≡ false
    → (b == 64) ≡ false → look_in_comment closes n (b ∷ t) ≡ Goes 1
comment_goes closes n b t on h = cc (turned 64 b h, no_section b t h)

literal_goes : (quote b : ℕ) (t : List ℕ) → (quote == b) ≡ false → (92 == b) ≡ false
    → (64 == b) ≡ false → (b == 10) ≡ false → look_in_literal quote (b ∷ t) ≡ Goes 1
literal_goes quote b t on back at line = cc

include_goes : (b : ℕ) (t : List ℕ) → (62 == b) ≡ false → (64 == b) ≡ false
    → (b == 10) ≡ false → look_in_include (b ∷ t) ≡ Goes 1
include_goes b t on at line = cc

pub raw_goes : (sign : List ℕ) (b : ℕ) (t : List ℕ) → is_raw_special sign b ≡ false → look_in_raw sign (b ∷ t) ≡ Goes 1
raw_goes [] b t h = cc
raw_goes (first ∷ rest) b t h = grind (arith, turned 64 b, turned first b, no_section b t)

pub plain_goes : (item : Item) (b : ℕ) (t : List ℕ) → is_special item b ≡ false → look_of item (b ∷ t) ≡ Goes 1
plain_goes ControlText b t h = let off = or_parts (b == 64) (b == 10) h in control_goes b t (turned 64 b off.0) off.1
plain_goes Name b t h = name_goes b t h
plain_goes Comment b t h = grind (arith, or_parts (b == 64) (b == 42) h, turned 42 b)
plain_goes LineComment b t h = let off = or_parts (b == 64) (b == 10) h in comment_goes at_line_end 0 b t off.1 off.0
plain_goes (Literal quote) b t h = grind (arith, literal_goes quote b t, turned quote b, turned 92 b, turned 64 b)
plain_goes IncludedName b t h = grind (arith, include_goes b t, turned 62 b, turned 64 b)
plain_goes (RawLiteral sign) b t h = raw_goes sign.now b t h

-- The extent of an item after a span of plain bytes.
pub reach_plain : (item : Item) (e : End) (t : List ℕ) → reached (reach (look_of item) e t)
    ≡ later_by (prefix_len (is_plain item) t) (reached (reach (look_of item) e (drop (prefix_len (is_plain item) t) t)))
reach_plain item e [] = later_by-zero (reached (reach (look_of item) e []))
reach_plain item e (b ∷ t) = by (is_plain item b) refl (reach_plain item e t)
  where
    look : List ℕ → Look
    look = look_of item

    n : ℕ
    n = prefix_len (is_plain item) t

    by : (v : Bool) → is_plain item b ≡ v → reached (reach look e t) ≡ later_by n (reached (reach look e (drop n t)))
        → reached (reach look e (b ∷ t))
        ≡ later_by (cond v (1 + n) 0) (reached (reach look e (drop (cond v (1 + n) 0) (b ∷ t))))
    by false off rest = later_by-zero (reached (reach look e (b ∷ t)))
    by true on rest =
        grind (
          arith,
          reach_goes look e 1 (b ∷ t) (omega arith) (omega arith)
              (plain_goes item b t (not-true (is_special item b) on)),
        )

pub reach_from : (item : Item) (e : End) (t rest : List ℕ) (n : ℕ) → n ≡ prefix_len (is_plain item) t → rest ≡ drop n t
    → reached (reach (look_of item) e t) ≡ later_by n (reached (reach (look_of item) e rest))
reach_from item e t rest n size back = grind (arith, reach_plain)

-- After a unit that the code has split off.
pub unit_from : (look : List ℕ → Look) (e : End) (n : ℕ) (t rest : List ℕ) → 0 < n → n ≤ length t → look t ≡ Goes n
    → rest ≡ drop n t → reached (reach look e t) ≡ later_by n (reached (reach look e rest))
unit_from look e n t rest some fits goes back =
    let whole : min n (length t) ≡ n = omega arith in
    reach_goes look e n t (omega arith) some goes
    ∙ (λ i. later_by (whole i) (reached (reach look e (drop (whole i) t))))
    ∙ ap (λ u. later_by n (reached (reach look e u))) (sym back)

-- At its closing quote.
pub quote_closes : (quote : ℕ) (t : List ℕ) → begins (quote ∷ []) t ≡ true
    → reached (reach (look_in_literal quote) Open t) ≡ record { size = 0; close = 1; how = Closed }
quote_closes quote [] h = cc
quote_closes quote (b ∷ t) h = cc

-- Whether it goes on after its line.
pub plain_goes_on : (item : Item) (t : List ℕ)
    → goes_on (look_of item) (drop (prefix_len (is_plain item) t) t) ≡ goes_on (look_of item) t
plain_goes_on item [] = refl
plain_goes_on item (b ∷ t) = by (is_plain item b) refl (plain_goes_on item t)
  where
    look : List ℕ → Look
    look = look_of item

    n : ℕ
    n = prefix_len (is_plain item) t

    by : (v : Bool) → is_plain item b ≡ v → goes_on look (drop n t) ≡ goes_on look t
        → goes_on look (drop (cond v (1 + n) 0) (b ∷ t)) ≡ goes_on look (b ∷ t)
    by false off rest = refl
    by true on rest =
        let e : 1 + n ≡ suc n = omega arith in
        ap (λ k. goes_on look (drop k (b ∷ t))) e ∙ rest
        ∙ sym (ap (λ w. is_unclosed (at_start look w (b ∷ t ++ newline) Open (t ++ newline)).how)
        (plain_goes item b (t ++ newline) (not-true (is_special item b) on)))

pub no_sign-none : (sign t : List ℕ) → length sign < 1 → 0 ≡ prefix_len (λ b. not (is_raw_special sign b)) t
no_sign-none [] [] h = refl
no_sign-none [] (b ∷ t) h = refl
no_sign-none (first ∷ rest) t h = absurd (omega (arith, h))
