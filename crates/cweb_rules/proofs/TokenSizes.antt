-- Constants, transliterations, numbers and punctuators are within the source.
use Rattle.cweb_rules.proofs.Common.{◌≡◌, ◌≤◌, ◌<◌, ℕ, ◌+◌, Bool, true, ◌&&◌, not, List, [], ◌∷◌, Option, Some, None, length, drop, refl, subst, arith, nat_lt, codes, prefix_len, position_or_len, decimal, ltb-true, leb-true, length-decimal-le, length-drop, prefix_len-le-length, is_gap, is_replacing, ends_faulty, escapes, escaped, octal_value, octal, after_backslash, is_plain_character, character_at, faulty_size, constant_of, constant, hex_at, letter_with, letter_after, letter, Transliteration, Valued, Character, longest, number_len, and_parts, has_quote_at, has_delimiter, delimiter, is_delimiter, length-take-le}
use Rattle.cweb_rules.proofs.Sizes.{begins-size}

abbrev IsCharacter : Option Character → Type 0
IsCharacter None = Unit {0}
IsCharacter (Some c) = (c.code < 256) × (1 ≤ c.size)

abbrev are_small : List (ℕ × ℕ) → Bool
are_small [] = true
are_small (e ∷ es) = nat_lt e.1 256 && are_small es

small : (n : ℕ) → nat_lt n 256 ≡ true → n < 256
small n h = ltb-true n 256 h

escaped-is : (es : List (ℕ × ℕ)) (t : List ℕ) → are_small es ≡ true → IsCharacter (escaped es t)
escaped-is [] t h = tt
escaped-is (e ∷ es) t h =
    grind (arith, small, and_parts, escaped-is es t (and_parts (nat_lt e.1 256) (are_small es) h).1)

octal-is : (digits : List ℕ) → IsCharacter (octal digits)
octal-is digits = grind (arith, IsCharacter, leb-true (octal_value digits) 255)

after_backslash-is : (t : List ℕ) → IsCharacter (after_backslash t)
after_backslash-is t = grind (arith, escaped-is escapes t refl, octal-is)

alone-is : (b : ℕ) → is_plain_character b ≡ true → b < 128
alone-is b h = ltb-true b 128 (and_parts (nat_lt b 128) _ h).0

character_at-is : (t : List ℕ) → IsCharacter (character_at t)
character_at-is [] = tt
character_at-is (b ∷ t) = grind (arith, after_backslash-is t, IsCharacter, alone-is b)

position-size : (p : ℕ → Bool) (t : List ℕ) → position_or_len p t ≤ length t
position-size p t = prefix_len-le-length (λ x. not (p x)) t

faulty-size : (t : List ℕ) → faulty_size t ≤ length t
faulty-size t = grind (arith, position-size ends_faulty t, begins-size (codes "'"), length-drop)

abbrev pub IsShort : Option ℕ → ℕ → Type 0
IsShort None m = Unit {0}
IsShort (Some n) m = length (decimal n) ≤ m

abbrev pub IsValued : Valued → ℕ → Type 0
IsValued v n = (v.size ≤ n) × IsShort v.value (2 + v.size)

constant_of-size : (o : Option Character) (t : List ℕ) → IsCharacter o → IsValued (constant_of o t) (length t)
constant_of-size None t h = (faulty-size t, tt)
constant_of-size (Some c) t h =
    grind (
      arith,
      length-drop c.size t,
      length-decimal-le 3 c.code (omega arith) (omega (arith, h.0)) (omega (arith, h.0)),
      faulty-size t,
    )

pub constant-size : (t : List ℕ) → IsValued (constant t) (length t)
constant-size t = constant_of-size (character_at t) t (character_at-is t)

abbrev pub IsLetter : Option Transliteration → ℕ → Type 0
IsLetter None n = Unit {0}
IsLetter (Some l) n = l.start + l.size ≤ n

letter_with-size : (byte start gap : ℕ) (t : List ℕ) → gap ≤ length t
    → IsLetter (letter_with byte start gap t) (start + length t)
letter_with-size byte start gap t h = grind (arith, length-drop gap t, prefix_len-le-length is_replacing (drop gap t))

letter_of-size : (gap : ℕ) (a b : ℕ) (t : List ℕ) (o : Option ℕ) → IsLetter
    (elim o [ None ↦ None | Some byte ↦ letter_with byte (gap + 2) (prefix_len is_gap t) t ]) (gap + length (a ∷ b ∷ t))
letter_of-size gap a b t None = tt
letter_of-size gap a b t (Some byte) =
    grind (arith, letter_with-size byte (gap + 2) (prefix_len is_gap t) t (prefix_len-le-length is_gap t))

letter_after-size : (gap : ℕ) (t : List ℕ) → IsLetter (letter_after gap t) (gap + length t)
letter_after-size gap [] = tt
letter_after-size gap (a ∷ []) = tt
letter_after-size gap (a ∷ b ∷ t) = letter_of-size gap a b t (hex_at (a ∷ b ∷ t))

pub letter-size : (t : List ℕ) → IsLetter (letter t) (length t)
letter-size t =
    let gap = prefix_len is_gap t in
    let e : gap + length (drop gap t) ≡ length t = omega (arith, length-drop gap t, prefix_len-le-length is_gap t) in
    subst (λ n. IsLetter (letter t) n) e (letter_after-size gap (drop gap t))

pub number-size : (last : ℕ) (t : List ℕ) → number_len last t ≤ length t
number-size last [] = omega arith
number-size last (b ∷ t) = grind (arith, number-size b t)

pub longest-size : (ps : List (List ℕ)) (b : ℕ) (t : List ℕ) → longest ps (b ∷ t) ≤ length (b ∷ t)
longest-size [] b t = omega arith
longest-size (p ∷ ps) b t = grind (arith, longest-size ps b t, begins-size)

pub is_quoted-size : (n : ℕ) (t : List ℕ) → has_quote_at n t ≡ true → n + 1 ≤ length t
is_quoted-size n t h = grind (arith, length-drop n t)

pub has_delimiter-size : (t : List ℕ) → has_delimiter t ≡ true → length (delimiter t) + 1 ≤ length t
has_delimiter-size t h =
    grind (arith, begins-size (codes "("), and_parts, length-drop, length-take-le, prefix_len-le-length is_delimiter t)
