-- What the first bytes of a lexeme tell, and classes of bytes.
use Rattle.std.specs.Prelude.{ℕ, Bool, ◌||◌, not, List, [], ◌∷◌, codes, if◌then◌else◌, ◌==◌, false, bytes_eq, ◌+◌}
use Rattle.std.specs.Prelude.{◌*◌, ◌-◌}
use Rattle.std.specs.List.{list_any, fold}
use Rattle.cweb_rules.specs.Bytes.{is_blank, is_digit, is_line_end, is_word_byte, listed, is_gap, is_octal}
use Rattle.cweb_rules.specs.Bytes.{is_replacing, is_delimiter}
use Rattle.cweb_rules.specs.Edges.{is_one_of}
use Rattle.cweb_rules.specs.declared.firsts.Plain.{Plain}
use Rattle.cweb_rules.specs.declared.bytes.Class.{Class}
use Rattle.cweb_rules.specs.declared.bytes.Class.TheVariants.{Blank, Gap, Octal, Word, Replacing, Delimiter}
use Rattle.cweb_rules.specs.declared.firsts.Plain.TheVariants as plain

-- A first byte after which only an identifier or a punctuator is possible.
abbrev pub is_settled : ℕ → Bool
is_settled b = not (is_one_of (32 ∷ 9 ∷ 13 ∷ 11 ∷ 12 ∷ 10 ∷ []) b || is_one_of (codes "/@RLuU\"'<.") b || is_digit b)

-- Punctuators that begin no longer one and no directive.
abbrev pub is_single_punctuator : ℕ → Bool
is_single_punctuator b = is_one_of (codes "()[]{};,?~") b

-- `@` begins a control code. `#` and `\` matter to directives.
abbrev pub stops_plain : ℕ → Bool
stops_plain b = is_one_of (codes "@#\\") b

abbrev pub is_figure : ℕ → Bool
is_figure b = is_one_of (codes "0123456789") b

abbrev pub is_quote : ℕ → Bool
is_quote b = is_one_of (codes "\"'") b

abbrev pub is_less : ℕ → Bool
is_less b = is_one_of (codes "<") b

abbrev pub first_byte_class : ℕ → Plain
first_byte_class b =
    if stops_plain b then plain.Stop
    else (if is_blank b then plain.Blank
    else (if is_settled b then
    (if is_word_byte b then plain.Word else (if is_single_punctuator b then plain.Lone else plain.Operator))
    else (if is_figure b then plain.Digit
    else (if is_quote b then plain.Quote
    else (if is_less b then plain.Operator else plain.Further)))))

abbrev pub past_blank : List ℕ → List ℕ
past_blank [] = []
past_blank (b ∷ t) = if b == 32 then t else b ∷ t

-- The second bytes of listed punctuators.
abbrev pub seconds : List ℕ
seconds = codes ".<>=-+&|*#:"

-- The second byte exists and passes a test.
abbrev pub second_is : (ℕ → Bool) → List ℕ → Bool
second_is test [] = false
second_is test (a ∷ []) = false
second_is test (a ∷ b ∷ t) = test b

-- These bytes are an entry of the list.
abbrev pub is_listed : List ℕ → Bool
is_listed text = list_any (bytes_eq text) listed

-- The first three bytes are an entry of the list.
abbrev pub begins_triple : List ℕ → Bool
begins_triple (a ∷ b ∷ c ∷ t) = is_listed (a ∷ b ∷ c ∷ [])
begins_triple t = false

-- The first two bytes are an entry of the list.
abbrev pub begins_pair : List ℕ → Bool
begins_pair (a ∷ b ∷ t) = is_listed (a ∷ b ∷ [])
begins_pair t = false

-- The classes of bytes of the type `Class`.
abbrev pub in_class : Class → ℕ → Bool
in_class Blank b = is_blank b
in_class Gap b = is_gap b
in_class Octal b = is_octal b
in_class Word b = is_word_byte b
in_class Replacing b = is_replacing b
in_class Delimiter b = is_delimiter b

-- The value of octal digits.
abbrev pub octal_value : List ℕ → ℕ
octal_value digits = fold (λ n b. n * 8 + (b - 48)) 0 digits

-- A faulty constant ends at `'` or a newline.
abbrev pub ends_faulty : ℕ → Bool
ends_faulty b = (b == 39) || is_line_end b
