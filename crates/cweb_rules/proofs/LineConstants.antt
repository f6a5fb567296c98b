-- Constants, transliterations and control texts don't depend on the bytes after their line.
use Rattle.cweb_rules.proofs.Common.{◌≡◌, ◌≤◌, ℕ, ◌+◌, true, false, List, [], ◌∷◌, ◌++◌, Option, Some, None, length, take, refl, ap, subst, arith, if◌then◌else◌, codes, prefix_len, take-append-le, drop-append-le, length-take-le, prefix_len-le-length, begins, is_gap, is_octal, is_hex, character, escapes, escaped, octal, after_backslash, is_plain_character, character_at, faulty_size, constant_of, constant, hex_at, letter_with, letter_after, letter, Transliteration, Character, Cut, reach_of_control_text, AtLineEnd, and-false}
use Rattle.cweb_rules.proofs.Seams.{begins_line, drop_line, run_line}
use Rattle.cweb_rules.proofs.Reaches.{reach-line}
use Rattle.cweb_rules.proofs.Looks.{whole, control-local, control-units}
use Rattle.cweb_rules.proofs.Sizes.{begins-size}

control-stops : (more : List ℕ) → AtLineEnd more
    → reach_of_control_text more ≡ record { units = []; close = 0; how = Cut }
control-stops [] e = refl
control-stops (b ∷ more) e = ap (λ n. reach_of_control_text (n ∷ more)) e

pub control_text-line : (t more : List ℕ) → AtLineEnd more → reach_of_control_text (t ++ more) ≡ reach_of_control_text t
control_text-line t more e = grind (arith, reach-line, control-local, whole, control-units, control-stops)

after_backslash-line : (t more : List ℕ) → AtLineEnd more → after_backslash (t ++ more) ≡ after_backslash t
after_backslash-line t more e =
    grind (arith, run_line is_octal t more refl e, take-append-le, prefix_len-le-length is_octal t)

character_at-line : (t more : List ℕ) → AtLineEnd more → character_at (t ++ more) ≡ character_at t
character_at-line [] [] e = refl
character_at-line [] (b ∷ more) e = ap (λ n. character_at (n ∷ more)) e
character_at-line (b ∷ t) more e = grind (arith, begins_line, after_backslash-line)

abbrev IsFit : Option Character → ℕ → Type 0
IsFit None n = Unit {0}
IsFit (Some c) n = c.size ≤ n

escaped-fits : (es : List (ℕ × ℕ)) (t : List ℕ) → IsFit (escaped es t) (1 + length t)
escaped-fits [] t = tt
escaped-fits (e ∷ es) t = grind (arith, begins-size, escaped-fits es t)

octal-fits : (n : ℕ) (t : List ℕ) → n ≤ length t → IsFit (octal (take n t)) (1 + length t)
octal-fits n t h = grind (arith, length-take-le n t h)

after_backslash-fits : (t : List ℕ) → IsFit (after_backslash t) (1 + length t)
after_backslash-fits t = grind (arith, escaped-fits escapes t, octal-fits, prefix_len-le-length is_octal t)

character_at-fits : (t : List ℕ) → IsFit (character_at t) (length t)
character_at-fits [] = tt
character_at-fits (b ∷ t) =
    (elim (begins (codes "@@") (b ∷ t)) as (λ v. begins (codes "@@") (b ∷ t) ≡ v → IsFit (if v then character 64 2 else
    (if begins (codes "\\") (b ∷ t) then after_backslash t else (if is_plain_character b then character b 1 else None)))
    (length (b ∷ t))) [
      | true ↦ λ h. begins-size (codes "@@") (b ∷ t) h
      | false ↦ λ h. elim (begins (codes "\\") (b ∷ t)) as
          (λ v. IsFit (if v then after_backslash t else (if is_plain_character b then character b 1 else None))
          (length (b ∷ t))) [
            | true ↦
                let e : 1 + length t ≡ length (b ∷ t) = omega arith in
                subst (IsFit (after_backslash t)) e (after_backslash-fits t)
            | false ↦ elim (is_plain_character b) as
                (λ v. IsFit (if v then character b 1 else None) (length (b ∷ t))) [ true ↦ omega arith | false ↦ tt ]
          ]
    ]) refl

faulty-line : (t more : List ℕ) → AtLineEnd more → faulty_size (t ++ more) ≡ faulty_size t
faulty-line t more e = grind (arith, run_line, drop_line (codes "'"), prefix_len-le-length)

constant_of-line : (o : Option Character) (t more : List ℕ) → AtLineEnd more
    → IsFit o (length t) → constant_of o (t ++ more) ≡ constant_of o t
constant_of-line None t more e h = λ i. record { value = None; size = faulty-line t more e i }
constant_of-line (Some c) t more e h = λ i. if drop_line (codes "'") c.size t more refl e h
    i then record { value = Some c.code; size = c.size + 1 } else record { value = None; size = faulty-line t more e i }

pub constant-line : (t more : List ℕ) → AtLineEnd more → constant (t ++ more) ≡ constant t
constant-line t more e = grind (arith, character_at-line, constant_of-line, character_at-fits)

letter_with-line : (byte start gap : ℕ) (t more : List ℕ) → AtLineEnd more → gap ≤ length t
    → letter_with byte start gap (t ++ more) ≡ letter_with byte start gap t
letter_with-line byte start gap t more e h = grind (arith, drop-append-le, run_line)

letter_of-line : (o : Option ℕ) (start : ℕ) (t more : List ℕ)
    → AtLineEnd more → (elim o as (λ w. Option Transliteration)
    [ None ↦ None | Some byte ↦ letter_with byte start (prefix_len is_gap (t ++ more)) (t ++ more) ]) ≡ (elim
    o as (λ w. Option Transliteration) [ None ↦ None | Some byte ↦ letter_with byte start (prefix_len is_gap t) t ])
letter_of-line None start t more e = refl
letter_of-line (Some byte) start t more e = grind (arith, run_line, letter_with-line, prefix_len-le-length)

hex_none : (a : ℕ) (t more : List ℕ) → hex_at (a ∷ 10 ∷ more) ≡ None
hex_none a t more = cc (and-false (is_hex a))

letter_after-none : (gap : ℕ) (t : List ℕ) → hex_at t ≡ None → letter_after gap t ≡ None
letter_after-none gap t h = cc

letter_after-line : (gap : ℕ) (t more : List ℕ) → AtLineEnd more → letter_after gap (t ++ more) ≡ letter_after gap t
letter_after-line gap [] [] e = refl
letter_after-line gap [] (b ∷ []) e = refl
letter_after-line gap [] (b ∷ c ∷ more) e = ap (λ n. letter_after gap (n ∷ c ∷ more)) e
letter_after-line gap (a ∷ []) [] e = refl
letter_after-line gap (a ∷ []) (b ∷ more) e = grind (arith, letter_after-none, hex_none)
letter_after-line gap (a ∷ b ∷ t) more e = letter_of-line (hex_at (a ∷ b ∷ t)) (gap + 2) t more e

pub letter-line : (t more : List ℕ) → AtLineEnd more → letter (t ++ more) ≡ letter t
letter-line t more e =
    grind (arith, run_line is_gap t more refl e, drop-append-le, prefix_len-le-length is_gap t, letter_after-line)
