-- Identifiers, numbers and punctuators don't depend on bytes that can't continue them.
use Rattle.cweb_rules.proofs.Common.{arith, ◌≡◌, ℕ, Bool, true, false, ◌&&◌, ◌==◌, List, [], ◌∷◌, ◌++◌, refl, ap, sym, ◌∙◌, codes, list_all, prefix_len, begins, first_is, is_one_of, is_word_byte, starts_section, in_c, c_match, rule_match, Numeral, Identifier, Punctuator, listed, longest, number_len, JoinsAll, after_word, after_number, or_parts, and-true, IsPast}
use Rattle.cweb_rules.proofs.Chosen.{Facts, ForWord, ForNumber, ForPunct}
use Rattle.cweb_rules.proofs.Raws.{plain_raw, word_raw}
use Rattle.cweb_rules.proofs.Joins.{unlike, seam_joins, longest_stays}
use Rattle.cweb_rules.proofs.Seams.{run_stop}
use Rattle.cweb_rules.proofs.Stays.{literal_stays, plain_literal, word_no_number, punct_no_number, number_stays_number, begins_number, number_first, number_goes}

pub no_section : (b : ℕ) (t : List ℕ) → (b == 64) ≡ false → starts_section (b ∷ t) ≡ false
no_section b [] h = h
no_section b (c ∷ t) h = ap (λ v. v && is_one_of (32 ∷ 9 ∷ 10 ∷ 42 ∷ []) c) h

section_stays : (b : ℕ) (t : List ℕ) → begins (codes "@") (b ∷ t) ≡ false → starts_section (b ∷ t) ≡ false
section_stays b t h = no_section b t (unlike (λ x. 64 == x) b 64 true refl (sym (and-true (64 == b)) ∙ h))

pub passes : (b : ℕ) (t more : List ℕ) → (47 == b) ≡ false → IsPast (b ∷ t) → IsPast (b ∷ t ++ more)
passes b t more e p = grind (arith, section_stays b (t ++ more) p.code)

passes_seam : (joins : ℕ → ℕ → Bool) → JoinsAll joins → (b : ℕ) (t more : List ℕ)
    → seam_joins joins b t more ≡ false → IsPast (b ∷ t) → IsPast (b ∷ t ++ more)
passes_seam joins all b t more h p = grind (arith, section_stays b (t ++ more) p.code)

not_word : (more : List ℕ) → first_is after_word more ≡ false → first_is is_word_byte more ≡ false
not_word [] h = refl
not_word (c ∷ more) h = (or_parts (is_word_byte c) (is_one_of (codes "\"'") c) h).0

not_number : (more : List ℕ) → first_is after_number more ≡ false → first_is after_word more ≡ false
not_number [] h = refl
not_number (c ∷ more) h = (or_parts (after_word c) (is_one_of (codes ".+-") c) h).0

pub word_prefix : (t : List ℕ) → Facts t ForWord
    → c_match in_c false false t ≡ rule_match Identifier (prefix_len is_word_byte t)
word_prefix t f = cc

pub word_stays : (b : ℕ) (t more : List ℕ) → Facts (b ∷ t) ForWord → list_all is_word_byte (b ∷ t) ≡ true
    → first_is after_word more ≡ false → c_match in_c false false (b ∷ t ++ more) ≡ c_match in_c false false (b ∷ t)
word_stays b t more f all h =
    word_prefix (b ∷ t ++ more) (
      (passes b t more (unlike is_word_byte 47 b true f.3 refl) f.0.0, word_raw (b ∷ t) more all h),
      literal_stays b t more h ∙ f.1,
      word_no_number b t more (unlike (λ x. 46 == x) b 46 true refl (unlike is_word_byte 46 b true f.3 refl)) ∙ f.2,
      f.3,
    )
    ∙ ap (rule_match Identifier) (run_stop is_word_byte (b ∷ t) more (not_word more h))
    ∙ sym (word_prefix (b ∷ t) f)

number_prefix : (t : List ℕ) → Facts t ForNumber → c_match in_c false false t ≡ rule_match Numeral (number_len 0 t)
number_prefix t f = cc

pub number_stays : (b : ℕ) (t more : List ℕ) → Facts (b ∷ t) ForNumber → first_is after_number more ≡ false
    → c_match in_c false false (b ∷ t ++ more) ≡ c_match in_c false false (b ∷ t)
number_stays b t more f h =
    grind (
      arith,
      number_prefix (b ∷ t ++ more) (
        (
          passes b t more (unlike begins_number 47 b true (number_first b t f.2)
              refl) f.0.0,
          plain_raw begins_number true b (t ++ more) (number_first b t f.2) refl refl refl refl,
        ),
        literal_stays
            b t more (not_number more h) ∙ f.1,
        number_stays_number b t more f.2,
      ),
      passes b t more (unlike begins_number 47 b
          true (number_first b t f.2) refl) f.0.0,
      unlike begins_number 47 b true (number_first b t f.2) refl,
      number_first b
          t f.2,
      plain_raw begins_number true b (t ++ more) (number_first b t f.2) refl refl refl refl,
      literal_stays b t
          more (not_number more h),
      not_number more h,
      number_stays_number b t more f.2,
      number_goes 0 (b ∷ t) more h,
    )

punct_prefix : (t : List ℕ) → Facts t ForPunct → c_match in_c false false t ≡ rule_match Punctuator (longest listed t)
punct_prefix t f = cc

pub punct_stays : (joins : ℕ → ℕ → Bool) → JoinsAll joins → (b : ℕ) (t more : List ℕ) → Facts (b ∷ t) ForPunct
    → seam_joins joins b t more ≡ false → c_match in_c false false (b ∷ t ++ more) ≡ c_match in_c false false (b ∷ t)
punct_stays joins all b t more f h =
    grind (
      arith,
      punct_prefix (b ∷ t ++ more) (
        (
          passes_seam joins all b t more h f.0.0,
          plain_raw is_word_byte false b
              (t ++ more) f.3 refl refl refl refl,
        ),
        plain_literal b (t ++ more) f.3 ∙ sym (plain_literal b t f.3) ∙ f.1,
        punct_no_number joins all b t more h ∙ f.2,
        f.3,
      ),
      passes_seam joins all b t more h f.0.0,
      plain_raw is_word_byte
          false b (t ++ more) f.3 refl refl refl refl,
      plain_literal b (t ++ more) f.3,
      plain_literal b t f.3,
      punct_no_number joins all b t more h,
      longest_stays joins listed b t more all.punctuators h,
      punct_prefix (b ∷ t) f,
    )
