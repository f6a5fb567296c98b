-- Lexemes of codes, comments and literals are within the source, and their bytes pay.
use Rattle.cweb_rules.proofs.Common.{◌≡◌, ◌≤◌, ◌<◌, ℕ, zero, suc, ◌+◌, Bool, true, false, List, [], ◌∷◌, ◌++◌, Option, Some, None, length, take, drop, ap, arith, length-append, if◌then◌else◌, nat_lt, nat_le, codes, flat_map, flat_map-append, length-drop, length-take-le, ImproperHexNumber, begins, starts_section, is_line_end, Effect, Nothing, Define, Format, Program, Named, InsertDefs, Joins, EmitAt, Faulty, letter, constant, Transliteration, Reach, body, reach_size, End, Cut, reach_of_control_text, reach_of_name, reach_of_literal, reach_of_included_name, look_in_control, look_in_name, look_in_literal, look_in_include, look_in_raw, reach_of_raw_literal, Kind, Skipped, Section, Code, Letter, Verbatim, Constant, Occurrence, Comment, Quoted, RuleMatch, rule_match, Context, section_match, control_text_match, verbatim_match, constant_match, found_letter_match, letter_match, opener_after, name_match, effect_match, code_match, tex_match, literal_prefix, starts_literal, quoted_match, quote_of, literal_match, raw_prefix, has_delimiter, starts_raw, delimiter, raw_closer, raw_match, include_match, at_line_ends, Pays, FitsAndPays, second_so}
use Rattle.cweb_rules.specs.declared.effect.Effect.TheVariants as effect
use Rattle.cweb_rules.proofs.FirstBytes.{known_if}
use Rattle.cweb_rules.proofs.Sizes.{take-at_most, begins-size, units-text, reach-size, control-within, name-within, literal-within, include-within, raw-within, opener_after-size}
use Rattle.cweb_rules.proofs.TokenSizes.{IsShort, constant-size, IsLetter, letter-size, is_quoted-size, has_delimiter-size}
use Rattle.cweb_rules.specs.declared.constants.TheConstants.{MAX_REPLACEMENT}

pub fair_of : (c : Context) (t : List ℕ) (k : Kind) (n : ℕ) → 0 < n → n ≤ length t
    → (length (take n t) ≡ n → Pays c k (take n t)) → FitsAndPays c t (rule_match k n)
fair_of c t k n some within pays = record { some = some; within = within; pays = pays (length-take-le n t within) }

pub section_at-fair : (c : Context) (b : ℕ) (t : List ℕ) → FitsAndPays c (b ∷ t) (section_match (b ∷ t))
section_at-fair c b t = known_if (FitsAndPays c (b ∷ t)) (begins (codes "@*") (b ∷ t)) _ _
    (λ h. fair_of c (b ∷ t) (Section true) 2 (omega arith) (begins-size (codes "@*") (b ∷ t) h) (λ e. omega (arith, e)))
    (λ h. fair_of c (b ∷ t) (Section false) 1 (omega arith) (omega arith) (λ e. omega (arith, e)))

pub skipped-fair : (c : Context) (b : ℕ) (t : List ℕ) → FitsAndPays c (b ∷ t) (rule_match Skipped 1)
skipped-fair c b t = fair_of c (b ∷ t) Skipped 1 (omega arith) (omega arith) (λ e. tt)

module _ (c : Context) (a b : ℕ) (u : List ℕ) where
  abbrev pub t : List ℕ
  t = a ∷ b ∷ u

  pair-fair : (e : Effect) → FitsAndPays c t (rule_match (Code e) 2)
  pair-fair e = fair_of c t (Code e) 2 (omega arith) (omega arith) (λ h. omega (arith, h))

  control_at-fair : FitsAndPays c t (control_text_match t)
  control_at-fair = grind (arith, fair_of c t, reach-size look_in_control Cut control-within u)

  verbatim_at-fair : FitsAndPays c t (verbatim_match t)
  verbatim_at-fair =
      let r = reach_of_control_text u in
      fair_of c t (Verbatim r.units r.how) (2 + reach_size r) (omega arith)
      (omega (arith, reach-size look_in_control Cut control-within u))
      (λ e. (omega (arith, e), omega (arith, e, units-text r.units)))

  constant_pays : (o : Option ℕ) (n : ℕ) (bytes : List ℕ) → IsShort o n
      → 0 < n → length bytes ≡ n → Pays c (Constant o) bytes
  constant_pays None n bytes h some e = tt
  constant_pays (Some m) n bytes h some e = (omega (arith, some, e), omega (arith, h, e))

  constant_at-fair : FitsAndPays c t (constant_match t)
  constant_at-fair =
      let v = constant u in
      let h = constant-size u in
      fair_of c t (Constant v.value) (2 + v.size) (omega arith) (omega (arith, h.0))
      (λ e. constant_pays v.value (2 + v.size) (take (2 + v.size) t) h.1 (omega arith) e)

  text_pays : (byte : ℕ) (v : Bool) (text bytes : List ℕ) → length text ≤ length bytes
      → Pays c (Letter byte (if v then Some text else None)) bytes
  text_pays byte true text bytes h = h
  text_pays byte false text bytes h = tt

  letter_is-fair : (o : Option Transliteration) → IsLetter o (length u) → FitsAndPays c t (found_letter_match o t)
  letter_is-fair None h = pair-fair (Faulty ImproperHexNumber)
  letter_is-fair (Some l) h =
      let n = 2 + (l.start + l.size) in
      let text = take l.size (drop (2 + l.start) t) in
      fair_of c t _ n (omega arith) (omega (arith, h)) (λ e. text_pays l.byte
      (nat_le l.size MAX_REPLACEMENT) text (take n t) (omega (arith, e, take-at_most l.size (drop (2 + l.start) t))))

  letter_at-fair : FitsAndPays c t (letter_match t)
  letter_at-fair = letter_is-fair (letter u) (letter-size u)

  name_at-fair : (with_opener : Bool) → FitsAndPays c t (name_match with_opener t)
  name_at-fair true =
      let r = reach_of_name u in
      let size = 2 + reach_size r in
      let within = reach-size look_in_name Cut name-within u in
      let sign = opener_after r.how (drop size t) in
      fair_of c t (Occurrence (begins (codes "@(") t) r.units r.how (nat_lt 0 sign)) (size + sign)
      (omega arith) (omega (arith, within, opener_after-size r.how (drop size t), length-drop size t))
      (λ e. (omega (arith, e), omega (arith, e, units-text r.units)))
  name_at-fair false =
      let r = reach_of_name u in
      let size = 2 + reach_size r in
      fair_of c t (Occurrence (begins (codes "@(") t) r.units r.how (nat_lt 0 (opener_after r.how (drop size t))))
      size (omega arith) (omega (arith, reach-size look_in_name Cut name-within u))
      (λ e. (omega (arith, e), omega (arith, e, units-text r.units)))

  code_prefix-fair : (e : Effect) (with_opener : Bool) → FitsAndPays c t (effect_match e with_opener t)
  code_prefix-fair Named with_opener = name_at-fair with_opener
  code_prefix-fair effect.Letter with_opener = letter_at-fair
  code_prefix-fair effect.ControlText with_opener = control_at-fair
  code_prefix-fair effect.Verbatim with_opener = verbatim_at-fair
  code_prefix-fair effect.Constant with_opener = constant_at-fair
  code_prefix-fair Nothing with_opener = pair-fair Nothing
  code_prefix-fair Define with_opener = pair-fair Define
  code_prefix-fair Format with_opener = pair-fair Format
  code_prefix-fair Program with_opener = pair-fair Program
  code_prefix-fair InsertDefs with_opener = pair-fair InsertDefs
  code_prefix-fair Joins with_opener = pair-fair Joins
  code_prefix-fair EmitAt with_opener = pair-fair EmitAt
  code_prefix-fair (Faulty k) with_opener = pair-fair (Faulty k)

pub code_at-fair : (c : Context) (effect : ℕ → Effect) (with_opener : Bool) (b : ℕ) (t : List ℕ)
    → FitsAndPays c (b ∷ t) (code_match effect with_opener (b ∷ t))
code_at-fair c effect with_opener a [] = skipped-fair c a []
code_at-fair c effect with_opener a (b ∷ u) = code_prefix-fair c a b u (effect b) with_opener

pub text_prefix-fair : (c : Context) (effect : ℕ → Effect) (b : ℕ) (t : List ℕ)
    → FitsAndPays c (b ∷ t) (tex_match effect (b ∷ t))
text_prefix-fair c effect b t =
    let P : RuleMatch → Type 0 = FitsAndPays c (b ∷ t) in
    known_if P (starts_section (b ∷ t)) _ _ (λ h. section_at-fair c b t) (λ h.
    known_if P (begins (codes "@") (b ∷ t)) _ _ (λ k. code_at-fair c effect true b t) (λ k. skipped-fair c b t))

ends-size : (t : List ℕ) → at_line_ends 1 t ≤ length t
ends-size [] = omega arith
ends-size (b ∷ t) = grind (arith, t, ends-size t)

comment_pays : (n b : ℕ) (t : List ℕ) → 0 < n → is_line_end b ≡ false
    → at_line_ends 1 (take n (b ∷ t)) + 1 ≤ length (take n (b ∷ t))
comment_pays zero b t some h = absurd (omega (arith, some))
comment_pays (suc n) b t some h = grind (arith, ends-size)

pub commented : (c : Context) (how : End) (b : ℕ) (t : List ℕ) (r : Reach) → is_line_end b ≡ false → 2 ≤ length (b ∷ t)
    → reach_size r ≤ length (drop 2 (b ∷ t)) → FitsAndPays c (b ∷ t) (rule_match (Comment how) (2 + reach_size r))
commented c how b t r h two within = grind (arith, fair_of, length-drop, comment_pays)

quoted-fair : (c : Context) (t : List ℕ) (n : ℕ) (r : Reach) → 0 < n
    → n ≤ length t → reach_size r ≤ length (drop n t) → FitsAndPays c t (quoted_match n r t)
quoted-fair c t n r some fits within =
    let close = take r.close (drop (n + length (body r)) t) in
    let us = take n t ∷ r.units ++ close ∷ [] in
    let whole : length (flat_map (λ u. u) us) ≤ n + reach_size r =
    omega (
      arith,
      length-append (take n t) (flat_map (λ u. u) (r.units ++ close ∷ [])),
      ap (λ (x : List ℕ). length x) (flat_map-append (λ u. u) r.units (close ∷ [])),
      length-append (body r) (flat_map (λ u. u) (close ∷ [])),
      length-append close [],
      take-at_most n t,
      take-at_most r.close (drop (n + length (body r)) t),
    ) in
    fair_of c t (Quoted us r.how) (n + reach_size r) (omega (arith, some))
    (omega (arith, fits, within, length-drop n t))
    (λ e. (omega (arith, e, some), omega (arith, e, units-text us, whole)))

pub literal_at-fair : (c : Context) (t : List ℕ) → starts_literal t ≡ true → FitsAndPays c t (literal_match t)
literal_at-fair c t h =
    let n = literal_prefix t in
    quoted-fair c t (n + 1) (reach_of_literal (quote_of (drop n t)) (drop (n + 1) t)) (omega arith)
    (is_quoted-size n t h)
    (reach-size (look_in_literal (quote_of (drop n t))) Cut (literal-within (quote_of (drop n t))) (drop (n + 1) t))

pub raw_at-fair : (c : Context) (t : List ℕ) → starts_raw t ≡ true → FitsAndPays c t (raw_match t)
raw_at-fair c t h =
    let m = raw_prefix t + 2 in
    let n = m + length (delimiter (drop m t)) + 1 in
    let sign = raw_closer (drop m t) in
    let some = has_delimiter-size
    (drop m t) (second_so (begins (codes "R\"") (drop (raw_prefix t) t)) (has_delimiter (drop m t)) h) in
    quoted-fair c t n (reach_of_raw_literal sign (drop n t)) (omega arith)
    (omega (arith, some, length-drop m t)) (reach-size (look_in_raw sign) Cut (raw-within sign) (drop n t))

pub include_at-fair : (c : Context) (b : ℕ) (t : List ℕ) → FitsAndPays c (b ∷ t) (include_match (b ∷ t))
include_at-fair c b t = quoted-fair c
    (b ∷ t) 1 (reach_of_included_name t) (omega arith) (omega arith) (reach-size look_in_include Cut include-within t)
