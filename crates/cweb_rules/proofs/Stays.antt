-- Where literals and numbers begin doesn't depend on bytes that can't continue them.
use Rattle.cweb_rules.proofs.Common.{arith, ◌≡◌, ℕ, Bool, true, false, cond, ◌&&◌, ◌||◌, ◌==◌, not, List, [], ◌∷◌, ◌++◌, refl, ap, sym, ◌∙◌, codes, if◌then◌else◌, eqb-true, begins, first_is, is_one_of, is_digit, is_word_byte, has_quote_at, starts_literal, number_len, starts_number, JoinsAll, after_word, after_number, or_parts, or-false}
use Rattle.cweb_rules.proofs.Joins.{unlike, seam_joins}

abbrev pub opens : Bool → Bool → Bool → Bool → Bool → Bool
opens u8 letter q2 q1 q0 = cond (u8 && q2) q2 (cond (letter && q1) q1 q0)

at_prefix : (v w : Bool) (f : ℕ → Bool) → f (if v then 2 else (if w then 1 else 0)) ≡ cond v (f 2) (cond w (f 1) (f 0))
at_prefix true w f = refl
at_prefix false true f = refl
at_prefix false false f = refl

abbrev pub is_letter_first : List ℕ → Bool
is_letter_first t = begins (codes "L") t || begins (codes "u") t || begins (codes "U") t

abbrev pub literal_opens : List ℕ → Bool
literal_opens t = opens (begins (codes "u8") t) (is_letter_first t) (has_quote_at 2 t) (has_quote_at 1 t)
    (has_quote_at 0 t)

pub opening : (t : List ℕ) → starts_literal t ≡ literal_opens t
opening t = grind (arith, at_prefix)

no_quote : (c : ℕ) → is_one_of (codes "\"'") c ≡ false → ((34 == c) ≡ false) × ((39 == c) ≡ false)
no_quote c h = let e = or_parts (34 == c) ((39 == c) || false) h in (e.0, (or_parts (39 == c) false e.1).0)

pub literal_stays : (b : ℕ) (t more : List ℕ) → first_is after_word more ≡ false
    → starts_literal (b ∷ t ++ more) ≡ starts_literal (b ∷ t)
literal_stays b [] [] h = refl
literal_stays b [] (c ∷ more) h = grind (arith, no_quote c, unlike is_word_byte 56 c false, is_letter_first)
literal_stays b (c ∷ []) [] h = refl
literal_stays b (c ∷ []) (e ∷ more) h = grind (arith, no_quote e, is_letter_first, opening (b ∷ c ∷ []))
literal_stays b (c ∷ e ∷ t) more h = opening (b ∷ c ∷ e ∷ t ++ more) ∙ sym (opening (b ∷ c ∷ e ∷ t))

-- If a test separates a byte from the letters of the prefixes, only a quote begins a literal.
pub plain_with : (p : ℕ → Bool) (v : Bool) (b : ℕ) (t : List ℕ) → p b ≡ v → p 76 ≡ not v
    → p 117 ≡ not v → p 85 ≡ not v → starts_literal (b ∷ t) ≡ has_quote_at 0 (b ∷ [])
plain_with p v b t w hL hu hU = grind (arith, unlike p 76 b v w hL, unlike p 85 b v w hU, opening)

pub plain_literal : (b : ℕ) (t : List ℕ) → is_word_byte b ≡ false → starts_literal (b ∷ t) ≡ has_quote_at 0 (b ∷ [])
plain_literal b t w = plain_with is_word_byte false b t w refl refl refl

pub word_no_number : (b : ℕ) (t more : List ℕ) → (b == 46) ≡ false
    → starts_number (b ∷ t ++ more) ≡ starts_number (b ∷ t)
word_no_number b [] [] h = refl
word_no_number b [] (c ∷ more) h = ap (λ v. is_digit b || (v && is_digit c)) h ∙ or-false (is_digit b)
word_no_number b (c ∷ t) more h = refl

no_dot : (joins : ℕ → ℕ → Bool) → JoinsAll joins → (b c : ℕ) → joins b c ≡ false → ((b == 46) && is_digit c) ≡ false
no_dot joins all b c h = grind (arith, eqb-true b 46, all.number c)

pub punct_no_number : (joins : ℕ → ℕ → Bool) → JoinsAll joins → (b : ℕ) (t more : List ℕ)
    → seam_joins joins b t more ≡ false → starts_number (b ∷ t ++ more) ≡ starts_number (b ∷ t)
punct_no_number joins all b [] [] h = refl
punct_no_number joins all b [] (c ∷ more) h = ap (λ v. is_digit b || v) (no_dot joins all b c h) ∙ or-false (is_digit b)
punct_no_number joins all b (c ∷ t) more h = refl

pub number_stays_number : (b : ℕ) (t more : List ℕ) → starts_number (b ∷ t) ≡ true
    → starts_number (b ∷ t ++ more) ≡ true
number_stays_number b [] [] h = h
number_stays_number b [] (c ∷ more) h = ap (λ v. v || ((b == 46) && is_digit c)) h
number_stays_number b (c ∷ t) more h = h

abbrev pub begins_number : ℕ → Bool
begins_number b = is_digit b || (b == 46)

wider : (x y z : Bool) → (x || (y && z)) ≡ true → (x || y) ≡ true
wider true y z h = refl
wider false true z h = refl
wider false false z h = h

pub number_first : (b : ℕ) (t : List ℕ) → starts_number (b ∷ t) ≡ true → begins_number b ≡ true
number_first b [] h = ap (λ v. v || (b == 46)) h
number_first b (c ∷ t) h = wider (is_digit b) (b == 46) (is_digit c) h

pub number_goes : (last : ℕ) (t more : List ℕ) → first_is after_number more ≡ false
    → number_len last (t ++ more) ≡ number_len last t
number_goes last [] [] h = refl
number_goes last [] (c ∷ more) h = grind (arith, or_parts)
number_goes last (b ∷ t) more h = cc (number_goes b t more h)
