-- The ASCII constants of `@'` and the transliterations of `@l`.
use Rattle.std.specs.Prelude.{ℕ, ◌+◌, ◌*◌, ◌-◌, Bool, ◌||◌, ◌&&◌, ◌==◌, nat_le, nat_lt, min, List, [], ◌∷◌, length}
use Rattle.std.specs.Prelude.{take, drop, codes, if◌then◌else◌, Option, Some, None, not, option_and_then}
use Rattle.std.specs.List.{fold, prefix_len, position_or_len}
use Rattle.cweb_rules.specs.declared.constants.Character.{Character}
use Rattle.cweb_rules.specs.declared.constants.Valued.{Valued}
use Rattle.cweb_rules.specs.declared.constants.Transliteration.{Transliteration}
use Rattle.cweb_rules.specs.Bytes.{begins, is_octal, is_hex, is_digit, is_gap, is_replacing, is_line_end, lower}
use Rattle.cweb_rules.specs.Edges.{is_one_of}

-- A character with its code and the bytes that it is written with.
abbrev pub character : ℕ → ℕ → Option Character
character code size = Some (record { code = code; size = size })

-- The letters after `\` and the codes of their escape sequences.
abbrev pub escapes : List (ℕ × ℕ)
escapes = (97, 7) ∷ (98, 8) ∷ (102, 12) ∷ (110, 10) ∷ (114, 13) ∷ (116, 9) ∷ (118, 11) ∷ (92, 92) ∷ (39, 39) ∷ (34, 34)
    ∷ (63, 63) ∷ []

-- The escape sequence of a letter after `\`.
abbrev pub escaped : List (ℕ × ℕ) → List ℕ → Option Character
escaped [] t = None
escaped (e ∷ es) t = if begins (e.0 ∷ []) t then character e.1 2 else escaped es t

-- The escape sequence of octal digits, if their value is at most octal 377.
abbrev pub octal : List ℕ → Option Character
octal digits =
    let n = fold (λ n b. n * 8 + (b - 48)) 0 digits in
    if nat_le n 255 then character n (1 + length digits) else None

-- The escape sequence after `\`: up to three octal digits, or a letter.
abbrev pub after_backslash : List ℕ → Option Character
after_backslash t =
    let n = min 3 (prefix_len is_octal t) in
    if n == 0 then escaped escapes t else octal (take n t)

-- A byte below 128 that isn't `'`, `\`, `@` or a newline.
abbrev pub is_plain_character : ℕ → Bool
is_plain_character b = nat_lt b 128 && not (is_one_of (39 ∷ 92 ∷ 64 ∷ 10 ∷ []) b)

-- The next character: a plain byte, `@@`, or an escape sequence.
abbrev pub character_at : List ℕ → Option Character
character_at [] = None
character_at (b ∷ t) =
    if begins (codes "@@") (b ∷ t) then character 64 2
    else (if begins (codes "\\") (b ∷ t) then after_backslash t
    else (if is_plain_character b then character b 1 else None))

-- The size of a faulty constant. It ends at `'`, which is included, or at a newline.
abbrev pub faulty_size : List ℕ → ℕ
faulty_size t =
    let n = position_or_len (λ b. (b == 39) || is_line_end b) t in
    if begins (codes "'") (drop n t) then n + 1 else n

-- A constant is one character and `'`. Anything else is faulty.
abbrev pub constant_of : Option Character → List ℕ → Valued
constant_of None t = record { value = None; size = faulty_size t }
constant_of (Some c) t =
    if begins (codes "'") (drop c.size t) then record { value = Some c.code; size = c.size + 1 }
    else record { value = None; size = faulty_size t }

-- What follows `@'`.
abbrev pub constant : List ℕ → Valued
constant t = constant_of (character_at t) t

-- The value of a hexadecimal digit.
abbrev pub hex_value : ℕ → ℕ
hex_value b = if is_digit b then b - 48 else lower b - 87

-- The value of two hexadecimal digits, if it is 0x80 or more.
abbrev pub hex_at : List ℕ → Option ℕ
hex_at (a ∷ b ∷ t) =
    let n = 16 * hex_value a + hex_value b in
    if is_hex a && is_hex b && nat_le 128 n then Some n else None
hex_at _ = None

-- At least one space or tab, then the longest span of letters, digits and `_`, which may be empty.
abbrev pub letter_with : ℕ → ℕ → ℕ → List ℕ → Option Transliteration
letter_with byte start gap t =
    if gap == 0 then None
    else Some (record { byte = byte; start = start + gap; size = prefix_len is_replacing (drop gap t) })

-- The two digits, and their replacement.
abbrev pub letter_after : ℕ → List ℕ → Option Transliteration
letter_after gap t =
    option_and_then (λ byte. letter_with byte (gap + 2) (prefix_len is_gap (drop 2 t)) (drop 2 t)) (hex_at t)

-- What follows `@l`: spaces and tabs, then the two digits.
abbrev pub letter : List ℕ → Option Transliteration
letter t = letter_after (prefix_len is_gap t) (drop (prefix_len is_gap t) t)
