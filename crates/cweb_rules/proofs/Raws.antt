-- A raw literal ends at its closer, and no other token begins one.
use Rattle.cweb_rules.proofs.Common.{◌≡◌, ℕ, ◌+◌, ◌-◌, ◌<◌, ◌≤◌, suc, zero, Bool, true, false, cond, ◌&&◌, ◌||◌, ◌==◌, not, List, [], ◌∷◌, ◌++◌, length, take, drop, refl, ap, ◌∙◌, arith, length-append, codes, if◌then◌else◌, nat_le, list_all, prefix_len, take-append-le, length-drop, begins, is_delimiter, first_is, starts_section, is_word_byte, is_one_of, Reach, reach_in, with_unit, reach_size, Look, Goes, Ends, reach_of_raw_literal, look_in_raw, Closed, Cut, after_word, quoted_match, raw_prefix, has_delimiter, starts_raw, delimiter, raw_closer, raw_match, RuleMatch, and_parts, and-false, or_parts, drop-append-le, at_start}
use Rattle.cweb_rules.proofs.Sizes.{begins-size}
use Rattle.cweb_rules.proofs.Joins.{unlike, begins-append}
use Rattle.cweb_rules.specs.declared.literals.TheConstants.{MAX_DELIMITER}

pub quoted_stays : (n : ℕ) (r : Reach) (t more : List ℕ)
    → n + reach_size r ≤ length t → quoted_match n r (t ++ more) ≡ quoted_match n r t
quoted_stays n r t more h = grind (arith, length-drop, drop-append-le, take-append-le)

abbrev pick : Bool → Bool → ℕ
pick v w = if v then 2 else (if w then 1 else 0)

abbrev is_raw : ℕ → List ℕ → Bool
is_raw n t = begins (codes "R\"") (drop n t)

abbrev opens_at : ℕ → List ℕ → Bool
opens_at n t = is_raw n t && has_delimiter (drop (n + 2) t)

abbrev is_letter_raw : List ℕ → Bool
is_letter_raw t = begins (codes "LR\"") t || begins (codes "uR\"") t || begins (codes "UR\"") t

raw_none : (t : List ℕ) → begins (codes "u8R\"") t ≡ false
    → is_letter_raw t ≡ false → is_raw 0 t ≡ false → starts_raw t ≡ false
raw_none t v w h = (λ i. opens_at (pick (v i) (w i)) t) ∙ ap (λ x. x && has_delimiter (drop 2 t)) h

pub plain_raw : (p : ℕ → Bool) (v : Bool) (b : ℕ) (t : List ℕ) → p b ≡ v → p 76 ≡ not v
    → p 117 ≡ not v → p 85 ≡ not v → p 82 ≡ not v → starts_raw (b ∷ t) ≡ false
plain_raw p v b t w hL hu hU hR = grind (arith, unlike p 85 b v w hU, unlike p 82 b v w hR, raw_none (b ∷ t))

no_quote : (c : ℕ) → after_word c ≡ false → (34 == c) ≡ false
no_quote c h = (or_parts (34 == c) ((39 == c) || false) (or_parts (is_word_byte c) (is_one_of (codes "\"'") c) h).1).0

-- A prefix and its quote don't match identifier bytes that neither such a byte nor a quote follows.
no_mark : (w d more : List ℕ) → list_all is_word_byte w ≡ true → list_all is_word_byte d ≡ true
    → first_is after_word more ≡ false → begins (w ++ 34 ∷ []) (d ++ more) ≡ false
no_mark [] [] [] a all h = refl
no_mark [] [] (c ∷ more) a all h = ap (λ v. v && true) (no_quote c h)
no_mark [] (b ∷ d) more a all h = grind (arith, unlike, and_parts)
no_mark (x ∷ w) [] [] a all h = refl
no_mark (x ∷ w) [] (c ∷ more) a all h = grind (arith, unlike is_word_byte x c false)
no_mark (x ∷ w) (b ∷ d) more a all h =
    let rest = no_mark w d more (and_parts (is_word_byte x) (list_all is_word_byte w) a).1
    (and_parts (is_word_byte b) (list_all is_word_byte d) all).1 h in
    ap (λ v. (x == b) && v) rest ∙ and-false (x == b)

pub word_raw : (d more : List ℕ) → list_all is_word_byte d ≡ true
    → first_is after_word more ≡ false → starts_raw (d ++ more) ≡ false
word_raw d more all h =
    let none : (w : List ℕ) → list_all is_word_byte w ≡ true → begins (w ++ 34 ∷ []) (d ++ more) ≡ false = λ w a.
    no_mark w d more a all h in
    raw_none (d ++ more) (none (codes "u8R") refl)
    (λ i. none (codes "LR") refl i || none (codes "uR") refl i || none (codes "UR") refl i) (none (codes "R") refl)

pub run_all : (p : ℕ → Bool) (t : List ℕ) → prefix_len p t ≡ length t → list_all p t ≡ true
run_all p [] h = refl
run_all p (b ∷ t) h =
    elim (p b) as (λ v. cond v (1 + prefix_len p t) 0 ≡ length (b ∷ t) → (v && list_all p t) ≡ true) [
      | true ↦ λ e. run_all p t (omega (arith, e))
      | false ↦ λ e. absurd (omega (arith, e))
    ] h

begins_fits : (p t more : List ℕ) → length p ≤ length t → begins p (t ++ more) ≡ begins p t
begins_fits [] t more h = refl
begins_fits (x ∷ p) [] more h = absurd (omega (arith, h))
begins_fits (x ∷ p) (b ∷ t) more h = ap (λ v. (x == b) && v) (begins_fits p t more (omega (arith, h)))

abbrev seen : ℕ → Bool → Bool → Bool → Look
seen size closes cut pair = cond closes (Ends size Closed) (cond cut (Ends 0 Cut) (cond pair (Goes 2) (Goes 1)))

one_long : (close : List ℕ) (b : ℕ) (t : List ℕ) (c s p : Bool) → (c ≡ true → length close ≤ length (b ∷ t))
    → (at_start (look_in_raw close) (seen (length close) c s p) (b ∷ t) Cut t).how ≡ Closed
    → ((k : ℕ) → (reach_in (look_in_raw close) Cut k t).how ≡ Closed → length close ≤ length t)
    → length close ≤ length (b ∷ t)
one_long close b t true s p f h ih = f refl
one_long close b t false true p f h ih = cc
one_long close b t false false true f h ih = let i = ih 1 h in omega (arith, i)
one_long close b t false false false f h ih = let i = ih 0 h in omega (arith, i)

long : (close : List ℕ) (k : ℕ) (t : List ℕ)
    → (reach_in (look_in_raw close) Cut k t).how ≡ Closed → length close ≤ length t
long close k [] h = cc
long close (suc k) (b ∷ t) h = let i = long close k t h in omega (arith, i)
long close zero (b ∷ t) h = one_long close b t (begins close (b ∷ t))
    (starts_section (b ∷ t)) (begins (codes "@@") (b ∷ t)) (begins-size close (b ∷ t)) h (λ k g. long close k t g)

further_byte : (look : List ℕ → Look) (n : ℕ) (q e p : Bool) (b c : ℕ) (t more : List ℕ)
    → (at_start look (seen n q e p) (b ∷ c ∷ t) Cut (c ∷ t)).how ≡ Closed
    → ((k : ℕ) → (reach_in look Cut k (c ∷ t)).how ≡ Closed
    → reach_in look Cut k (c ∷ t ++ more) ≡ reach_in look Cut k (c ∷ t))
    → at_start look (seen n q e p) (b ∷ c ∷ t ++ more) Cut (c ∷ t ++ more)
    ≡ at_start look (seen n q e p) (b ∷ c ∷ t) Cut (c ∷ t)
further_byte look n true e p b c t more h ih = refl
further_byte look n false true p b c t more h ih = refl
further_byte look n false false true b c t more h ih = ap (with_unit (b ∷ c ∷ [])) (ih 1 h)
further_byte look n false false false b c t more h ih = ap (with_unit (b ∷ [])) (ih 0 h)

closed_stays : (close : List ℕ) → 2 ≤ length close → (k : ℕ) (t more : List ℕ)
    → (reach_in (look_in_raw close) Cut k t).how ≡ Closed
    → reach_in (look_in_raw close) Cut k (t ++ more) ≡ reach_in (look_in_raw close) Cut k t
closed_stays close two k [] more h = cc
closed_stays close two (suc k) (b ∷ t) more h = closed_stays close two k t more h
closed_stays close two zero (b ∷ []) more h = let l = long close 0 (b ∷ []) h in absurd (omega (arith, l, two))
closed_stays close two zero (b ∷ c ∷ t) more h =
    let u = b ∷ c ∷ t in
    ap (λ v. at_start (look_in_raw close) (seen (length close) v (starts_section u) (begins (codes "@@") u))
    (u ++ more) Cut (c ∷ t ++ more)) (begins_fits close u more (long close 0 u h))
    ∙ further_byte (look_in_raw close) (length close) (begins close u)
    (starts_section u) (begins (codes "@@") u) b c t more h (λ k g. closed_stays close two k (c ∷ t) more g)

prefix_within : (p : ℕ → Bool) (t more : List ℕ) → prefix_len p t < length t → prefix_len p (t ++ more) ≡ prefix_len p t
prefix_within p [] more h = absurd (omega (arith, h))
prefix_within p (b ∷ t) more h = grind (arith, p b, prefix_within p t more)

record Same (y more : List ℕ) : Type 0 where
  delimited : delimiter (y ++ more) ≡ delimiter y
  has : has_delimiter (y ++ more) ≡ true

same : (y more : List ℕ) → has_delimiter y ≡ true → Same y more
same y more h =
    let m = prefix_len is_delimiter y in
    let e = and_parts (nat_le m MAX_DELIMITER) (begins (codes "(") (drop m y)) h in
    let paren : 1 ≤ length (drop m y) = begins-size (codes "(") (drop m y) e.1 in
    let inside : m < length y = omega (arith, paren, length-drop m y) in
    let size : prefix_len is_delimiter (y ++ more) ≡ m = prefix_within is_delimiter y more inside in
    let rest : begins (codes "(") (drop m (y ++ more)) ≡ true =
    ap (begins (codes "(")) (drop-append-le m y more (omega (arith, inside)))
    ∙ begins-append (codes "(") (drop m y) more e.1 in
    record {
      delimited = ap (λ n. take n (y ++ more)) size ∙ take-append-le m y more (omega (arith, inside));
      has = ap (λ n. nat_le n MAX_DELIMITER && begins (codes "(") (drop n (y ++ more))) size ∙ (λ i. e.0 i && rest i);
    }

abbrev start_of : ℕ → List ℕ → ℕ
start_of n t = n + 2 + length (delimiter (drop (n + 2) t)) + 1

abbrev inside_of : ℕ → List ℕ → Reach
inside_of n t = reach_of_raw_literal (raw_closer (drop (n + 2) t)) (drop (start_of n t) t)

abbrev raw_from : ℕ → List ℕ → RuleMatch
raw_from n t = quoted_match (start_of n t) (inside_of n t) t

two : (y : List ℕ) → 2 ≤ length (raw_closer y)
two y = omega (arith, length-append (delimiter y) (codes "\""))

raw_with : (n : ℕ) (t more : List ℕ) → opens_at n t ≡ true
    → (inside_of n t).how ≡ Closed → start_of n t + reach_size (inside_of n t) ≤ length t
    → (raw_from n (t ++ more) ≡ raw_from n t) × (opens_at n (t ++ more) ≡ true)
raw_with n t more o closed within =
    let x = drop n t in
    let y = drop (n + 2) t in
    let e = and_parts (is_raw n t) (has_delimiter y) o in
    let room : 2 ≤ length x = begins-size (codes "R\"") x e.0 in
    let over : drop n (t ++ more) ≡ x ++ more = drop-append-le n t more (omega (arith, within)) in
    let over2 : drop (n + 2) (t ++ more) ≡ y ++ more = drop-append-le (n + 2) t more (omega (arith, within)) in
    let s = same y more e.1 in
    let delimited : delimiter (drop (n + 2) (t ++ more)) ≡ delimiter y = ap delimiter over2 ∙ s.delimited in
    let start : start_of n (t ++ more) ≡ start_of n t = ap (λ d. n + 2 + length d + 1) delimited in
    let close : raw_closer (drop (n + 2) (t ++ more)) ≡ raw_closer y =
    ap (λ d. codes ")" ++ d ++ codes "\"") delimited in
    let rest = drop-append-le (start_of n t) t more (omega (arith, within)) in
    let is : inside_of n (t ++ more) ≡ inside_of n t =
    (λ i. reach_of_raw_literal (close i) (drop (start i) (t ++ more))) ∙ ap (reach_of_raw_literal (raw_closer y)) rest
    ∙ closed_stays (raw_closer y) (two y) 0 (drop (start_of n t) t) more closed in
    let begun : is_raw n (t ++ more) ≡ true = ap (begins (codes "R\"")) over ∙ begins-append (codes "R\"") x more e.0 in
    let has : has_delimiter (drop (n + 2) (t ++ more)) ≡ true = ap has_delimiter over2 ∙ s.has in (
      (λ i. quoted_match (start i) (is i) (t ++ more)) ∙ quoted_stays (start_of n t) (inside_of n t) t more within,
      (λ i. begun i && has i),
    )

abbrev pub ends_raw : List ℕ → Type 0
ends_raw t =
    let n = raw_prefix t in ((inside_of n t).how ≡ Closed) × (start_of n t + reach_size (inside_of n t) ≤ length t)

enough : (n : ℕ) (t : List ℕ) → (inside_of n t).how ≡ Closed → 5 ≤ length t
enough n t closed = grind (arith, long, start_of n t, two, length-drop (start_of n t) t)

pub raw_stays : (t more : List ℕ) → starts_raw t ≡ true → ends_raw t
    → (raw_match (t ++ more) ≡ raw_match t) × (starts_raw (t ++ more) ≡ true)
raw_stays [] more o ends = absurd (omega (arith, enough (raw_prefix []) [] ends.0))
raw_stays (a ∷ []) more o ends = absurd (omega (arith, enough (raw_prefix (a ∷ [])) (a ∷ []) ends.0))
raw_stays (a ∷ b ∷ []) more o ends = absurd (omega (arith, enough (raw_prefix (a ∷ b ∷ [])) (a ∷ b ∷ []) ends.0))
raw_stays (a ∷ b ∷ c ∷ []) more o ends = grind (arith, enough (raw_prefix (a ∷ b ∷ c ∷ [])) (a ∷ b ∷ c ∷ []) ends.0)
raw_stays (a ∷ b ∷ c ∷ e ∷ t) more o ends =
    grind (arith, raw_with (raw_prefix (a ∷ b ∷ c ∷ e ∷ t)) (a ∷ b ∷ c ∷ e ∷ t) more o ends.0 ends.1)
