-- The first byte after a token can't continue it.
use Rattle.cweb_tools.proofs.Common.{◌≡◌, ℕ, Bool, true, false, ◌&&◌, ◌||◌, ◌==◌, not, List, [], ◌∷◌, refl, ap, ◌∙◌, codes, Token, Word, Number, Literal, Verbatim, Punct, Blank, Newline, Join, Defs, Name, Mark, is_digit, is_word_byte, after_word, after_number, joins_last, continues_token, is_operator, last_is, are_apart, and-false, or_parts, and-true, or-false, arith}
use Rattle.cweb_rules.proofs.Stays.{begins_number}
use Rattle.cweb_tools.proofs.SpacingStarts.{joins, Starts, none_of}

not_both : (b : List ℕ) (c : ℕ) → is_digit c ≡ false
    → (last_is is_operator b && is_operator c) ≡ false → joins_last joins b c ≡ false
not_both [] c d h = refl
not_both (x ∷ []) c d h = grind (arith, and-false)
not_both (x ∷ y ∷ b) c d h = not_both (y ∷ b) c d h

never : (b : List ℕ) (c : ℕ) → is_digit c ≡ false → is_operator c ≡ false → joins_last joins b c ≡ false
never b c d h = not_both b c d (ap (λ v. last_is is_operator b && v) h ∙ and-false (last_is is_operator b))

number_byte : (digit dot op : Bool) → (digit || dot) ≡ true
    → (digit ≡ true → op ≡ false) → (x : Bool) → (x && op && (not dot || false)) ≡ false
number_byte true dot op h f x = grind (arith, and-false)
number_byte false true op h f x = and-false (x && op)
number_byte false false op h f x = cc

before_number : (b : List ℕ) (c : ℕ) → begins_number c ≡ true
    → last_is (λ x. x == 46) b ≡ false → joins_last joins b c ≡ false
before_number [] c n h = refl
before_number (x ∷ []) c n h = (λ i. (h i && is_digit c) || (is_operator x && is_operator c && (not (c == 46) || h i)))
    ∙ number_byte
    (is_digit c) (c == 46) (is_operator c) n (λ e. none_of is_digit (codes "+-*/%&|^!=<>.:#?") c refl e) (is_operator x)
before_number (x ∷ y ∷ b) c n h = before_number (y ∷ b) c n h

word_not_operator : (c : ℕ) → is_word_byte c ≡ true → is_operator c ≡ false
word_not_operator c h = none_of is_word_byte (codes "+-*/%&|^!=<>.:#?") c refl h

before_comment : (b : List ℕ) (c : ℕ)
    → (false || false || (last_is (λ x. x == 46) b && false) || (last_is is_operator b && (false || true)) || false)
    ≡ false → c ≡ 47 → joins_last joins b c ≡ false
before_comment b c apart h = grind (arith, or_parts, not_both)

-- If the rules put no blank, the next byte doesn't continue the token.
pub seam : (left right : Token) (c : ℕ) → are_apart left right ≡ false → Starts right c
    → continues_token joins left c ≡ false
seam (Word b) (Word d) c apart h = cc
seam (Word b) (Number d) c apart h = cc
seam (Word b) (Literal d) c apart h = cc
seam (Word b) (Punct d) c apart h = h.0
seam (Number b) (Word d) c apart h = cc
seam (Number b) (Number d) c apart h = cc
seam (Number b) (Literal d) c apart h = cc
seam (Number b) (Punct d) c apart h = grind (arith, or_parts)
seam (Punct b) (Word d) c apart h = never b c h.1 (word_not_operator c h.0)
seam (Punct b) (Number d) c apart h = grind (arith, or_parts, before_number, and-true)
seam (Punct b) (Literal d) c apart h = never b c h.1 h.0
seam (Punct b) (Punct d) c apart h = grind (arith, or_parts, or-false, not_both)
seam (Punct b) Blank c apart h = ap (joins_last joins b) h ∙ never b 32 refl refl
seam (Punct b) Newline c apart h = ap (joins_last joins b) h ∙ never b 10 refl refl
seam left (Verbatim d) c apart h = absurd h
seam left Join c apart h = absurd h
seam left Defs c apart h = absurd h
seam left (Name n) c apart h = absurd h
seam left (Mark p) c apart h = absurd h
seam (Word b) _ c apart h = ap after_word h
seam (Number b) _ c apart h = ap after_number h
seam (Punct b) _ c apart h = before_comment b c apart h
seam _ right c apart h = refl

-- A blank continues no token.
pub blank_after : (left : Token) → continues_token joins left 32 ≡ false
blank_after (Punct b) = never b 32 refl refl
blank_after _ = refl
