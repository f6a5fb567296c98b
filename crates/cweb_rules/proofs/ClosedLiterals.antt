-- A literal ends at its quote, whatever follows.
use Rattle.cweb_rules.proofs.Common.{◌≡◌, ℕ, ◌+◌, ◌-◌, ◌<◌, ◌≤◌, suc, zero, Bool, true, false, cond, ◌||◌, ◌==◌, List, [], ◌∷◌, ◌++◌, length, drop, refl, ap, sym, ◌∙◌, arith, codes, eqb-true, begins, at_line_end, in_c, Reach, reach_in, with_unit, reach_size, Look, Goes, Ends, reach_of_literal, look_in_literal, Closed, Cut, c_match, literal_match, quoted_match, has_quote_at, literal_prefix, starts_literal, quote_of, starts_raw, raw_match, and_parts, and-false, drop-append-le, at_start, IsPast}
use Rattle.cweb_rules.proofs.Raws.{quoted_stays, raw_stays, ends_raw}
use Rattle.cweb_rules.proofs.Stays.{opening, opens, is_letter_first}
use Rattle.cweb_rules.proofs.TokensStay.{passes}

abbrev seen : Bool → Bool → Bool → Bool → Look
seen closes cut escaped pair =
    cond closes (Ends 1 Closed) (cond cut (Ends 0 Cut) (cond escaped (Goes 1) (cond pair (Goes 2) (Goes 1))))

last_byte : (look : List ℕ → Look) (q e x p x' p' : Bool) (b : ℕ) (more : List ℕ)
    → (at_start look (seen q e x p) (b ∷ []) Cut []).how ≡ Closed
    → at_start look (seen q e x' p') (b ∷ more) Cut more ≡ at_start look (seen q e x p) (b ∷ []) Cut []
last_byte look true e x p x' p' b more h = refl
last_byte look false true x p x' p' b more h = cc
last_byte look false false true p x' p' b more h = cc
last_byte look false false false true x' p' b more h = cc
last_byte look false false false false x' p' b more h = cc

further_byte : (look : List ℕ → Look) (q e x p : Bool) (b c : ℕ) (t more : List ℕ)
    → (at_start look (seen q e x p) (b ∷ c ∷ t) Cut (c ∷ t)).how ≡ Closed
    → ((k : ℕ) → (reach_in look Cut k (c ∷ t)).how ≡ Closed
    → reach_in look Cut k (c ∷ t ++ more) ≡ reach_in look Cut k (c ∷ t))
    → at_start look (seen q e x p) (b ∷ c ∷ t ++ more) Cut (c ∷ t ++ more)
    ≡ at_start look (seen q e x p) (b ∷ c ∷ t) Cut (c ∷ t)
further_byte look true e x p b c t more h ih = refl
further_byte look false true x p b c t more h ih = refl
further_byte look false false true p b c t more h ih = ap (with_unit (b ∷ [])) (ih 0 h)
further_byte look false false false true b c t more h ih = ap (with_unit (b ∷ c ∷ [])) (ih 1 h)
further_byte look false false false false b c t more h ih = ap (with_unit (b ∷ [])) (ih 0 h)

closed_stays : (quote k : ℕ) (t more : List ℕ) → (reach_in (look_in_literal quote) Cut k t).how ≡ Closed
    → reach_in (look_in_literal quote) Cut k (t ++ more) ≡ reach_in (look_in_literal quote) Cut k t
closed_stays quote k [] more h = cc
closed_stays quote (suc k) (b ∷ t) more h = closed_stays quote k t more h
closed_stays quote zero (b ∷ []) more h = grind (arith, last_byte)
closed_stays quote zero (b ∷ c ∷ t) more h =
    let look = look_in_literal quote in
    let u = b ∷ c ∷ t in
    further_byte look (begins (quote ∷ []) u) (at_line_end u) (begins (codes "\\@") u)
    (begins (codes "\\") u || begins (codes "@@") u) b c t more h (λ k g. closed_stays quote k (c ∷ t) more g)

either : (a b : Bool) (P : Type 0) → (a || b) ≡ true → (a ≡ true → P) → (b ≡ true → P) → P
either true b P h f g = f refl
either false b P h f g = g h

pub is_a_quote : (b : ℕ) (P : ℕ → Type 0) → has_quote_at 0 (b ∷ []) ≡ true → P 34 → P 39 → P b
is_a_quote b P h x y = grind (arith, either, and_parts)

quote_first : (b : ℕ) (t u : List ℕ) → has_quote_at 0 (b ∷ []) ≡ true → literal_prefix (b ∷ t) ≡ literal_prefix (b ∷ u)
quote_first b t u h = is_a_quote b (λ n. literal_prefix (n ∷ t) ≡ literal_prefix (n ∷ u)) h refl refl

prefix_stays : (b : ℕ) (t more : List ℕ) → starts_literal (b ∷ t) ≡ true
    → literal_prefix (b ∷ t ++ more) ≡ literal_prefix (b ∷ t)
prefix_stays b [] more h = grind (arith, is_letter_first, and-false (117 == b), opening, quote_first b more)
prefix_stays b (c ∷ []) more h = grind arith
prefix_stays b (c ∷ e ∷ t) more h = refl

quote_within : (n : ℕ) (t more : List ℕ) → has_quote_at n t ≡ true
    → (n < length t) × (has_quote_at n (t ++ more) ≡ true) × (quote_of (drop n (t ++ more)) ≡ quote_of (drop n t))
quote_within zero [] more h = cc
quote_within (suc n) [] more h = cc
quote_within zero (b ∷ t) more h = (omega arith, h, refl)
quote_within (suc n) (b ∷ t) more h = let i = quote_within n t more h in (omega (arith, i.0), i.1, i.2)

abbrev pub inside : ℕ → List ℕ → Reach
inside n t = reach_of_literal (quote_of (drop n t)) (drop (n + 1) t)

literal_with : (n : ℕ) (t more : List ℕ) → has_quote_at n t ≡ true
    → (inside n t).how ≡ Closed → (n + 1) + reach_size (inside n t) ≤ length t
    → quoted_match (n + 1) (inside n (t ++ more)) (t ++ more) ≡ quoted_match (n + 1) (inside n t) t
literal_with n t more q closed within = grind (arith, quote_within, drop-append-le, closed_stays, quoted_stays)

not_slash : (b : ℕ) (t : List ℕ) → starts_literal (b ∷ t) ≡ true → (47 == b) ≡ false
not_slash b t h = grind (arith, eqb-true 47 b)

pub literal_first : (t : List ℕ) → IsPast t → starts_raw t ≡ false
    → starts_literal t ≡ true → c_match in_c false false t ≡ literal_match t
literal_first t p r q = cc

pub raw_prefix : (t : List ℕ) → IsPast t → starts_raw t ≡ true → c_match in_c false false t ≡ raw_match t
raw_prefix t p r = cc

abbrev pub ends_closed : List ℕ → Type 0
ends_closed t = let n = literal_prefix t in ((inside n t).how ≡ Closed) × ((n + 1) + reach_size (inside n t) ≤ length t)

quote_no_raw : (b : ℕ) (t : List ℕ) → has_quote_at 0 (b ∷ []) ≡ true → starts_raw (b ∷ t) ≡ false
quote_no_raw b t h = is_a_quote b (λ n. starts_raw (n ∷ t) ≡ false) h refl refl

by_prefix : (u8 letter q2 q1 q0 : Bool) (P : Type 0) → opens u8 letter q2 q1 q0 ≡ true
    → (u8 ≡ true → q2 ≡ true → P) → (letter ≡ true → q1 ≡ true → P) → (q0 ≡ true → P) → P
by_prefix true letter true q1 q0 P h f g k = f refl refl
by_prefix true true false true q0 P h f g k = g refl refl
by_prefix true true false false q0 P h f g k = k h
by_prefix true false false q1 q0 P h f g k = k h
by_prefix false true q2 true q0 P h f g k = g refl refl
by_prefix false true q2 false q0 P h f g k = k h
by_prefix false false q2 q1 q0 P h f g k = k h

after_u8 : (t : List ℕ) → begins (codes "u8") t ≡ true → has_quote_at 2 t ≡ true → starts_raw t ≡ false
after_u8 [] u q = cc
after_u8 (b ∷ []) u q = cc
after_u8 (b ∷ c ∷ []) u q = cc
after_u8 (b ∷ c ∷ e ∷ t) u q = grind (arith, eqb-true 117 b, eqb-true 56 c, and_parts (56 == c) true, is_a_quote e)

after_letter : (t : List ℕ) → is_letter_first t ≡ true → has_quote_at 1 t ≡ true → starts_raw t ≡ false
after_letter [] l q = cc
after_letter (b ∷ []) l q = cc
after_letter (b ∷ c ∷ t) l q = grind (arith, eqb-true 76 b, eqb-true 117 b, eqb-true 85 b, is_a_quote c)

after_quote : (t : List ℕ) → has_quote_at 0 t ≡ true → starts_raw t ≡ false
after_quote [] q = cc
after_quote (b ∷ t) q = quote_no_raw b t q

literal_not_raw : (t : List ℕ) → starts_literal t ≡ true → starts_raw t ≡ false
literal_not_raw t h = by_prefix (begins (codes "u8") t) (is_letter_first t) (has_quote_at 2 t) (has_quote_at 1 t)
    (has_quote_at 0 t) (starts_raw t ≡ false) (sym (opening t) ∙ h) (after_u8 t) (after_letter t) (after_quote t)

-- A literal that isn't raw doesn't become raw, since its prefix ends in a quote.
pub literal_stays_whole : (b : ℕ) (t more : List ℕ) → IsPast (b ∷ t)
    → starts_raw (b ∷ t) ≡ false → starts_literal (b ∷ t) ≡ true → ends_closed (b ∷ t)
    → c_match in_c false false (b ∷ t ++ more) ≡ c_match in_c false false (b ∷ t)
literal_stays_whole b t more p r q ends =
    let d = b ∷ t in
    let n = literal_prefix d in
    let same = prefix_stays b t more q in
    let starts : starts_literal (d ++ more) ≡ true =
    ap (λ k. has_quote_at k (d ++ more)) same ∙ (quote_within n d more q).1 in
    literal_first (d ++ more) (passes b t more (not_slash b t q) p) (literal_not_raw (d ++ more) starts) starts
    ∙ ap (λ k. quoted_match (k + 1) (inside k (d ++ more)) (d ++ more)) same
    ∙ literal_with n d more q ends.0 ends.1
    ∙ sym (literal_first d p r q)

no_raw_slash : (b : ℕ) (t : List ℕ) → starts_raw (b ∷ t) ≡ true → (47 == b) ≡ false
no_raw_slash b t h = grind (arith, eqb-true 47 b)

pub raw_stays_whole : (b : ℕ) (t more : List ℕ) → IsPast (b ∷ t) → starts_raw (b ∷ t) ≡ true
    → ends_raw (b ∷ t) → c_match in_c false false (b ∷ t ++ more) ≡ c_match in_c false false (b ∷ t)
raw_stays_whole b t more p r ends =
    let d = b ∷ t in
    let s = raw_stays d more r ends in
    raw_prefix (d ++ more) (passes b t more (no_raw_slash b t r) p) s.1 ∙ s.0 ∙ sym (raw_prefix d p r)
