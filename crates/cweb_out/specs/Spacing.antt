-- Whether a blank is printed between two adjacent tokens.
use Rattle.std.specs.Prelude.{ℕ, Bool, true, false, ◌||◌, ◌&&◌, ◌==◌, not, List, [], codes, if◌then◌else◌, Option, Some}
use Rattle.std.specs.Prelude.{None}
use Rattle.cweb_rules.specs.Edges.{first_is, is_one_of, is_operator, last_is}
use Rattle.cweb_store.specs.Parts.{Token, Word, Number, Literal, Verbatim, Punct, Join, is_comment}

-- Words, numbers and literals.
abbrev pub is_wordlike : Token → Bool
is_wordlike t = elim t [ Word b ↦ true | Number b ↦ true | Literal b ↦ true | _ ↦ false ]

-- The token is a Literal.
abbrev pub is_literal : Token → Bool
is_literal t = elim t [ Literal b ↦ true | _ ↦ false ]

-- The token is a Number.
abbrev pub is_number : Token → Bool
is_number t = elim t [ Number b ↦ true | _ ↦ false ]

-- A Join or Verbatim bytes.
abbrev pub is_join_or_verbatim : Token → Bool
is_join_or_verbatim t = elim t [ Join ↦ true | Verbatim b ↦ true | _ ↦ false ]

-- A punctuator whose first byte passes a test.
abbrev pub begins_with : (ℕ → Bool) → Token → Bool
begins_with test (Punct b) = first_is test b
begins_with test t = false

-- A punctuator whose last byte passes a test.
abbrev pub ends_with : (ℕ → Bool) → Token → Bool
ends_with test (Punct b) = last_is test b
ends_with test t = false

-- A blank separates: words, numbers and literals, except two literals; a number and what could continue it; a point and
-- a number; two operators; an operator and a section comment; a join or verbatim bytes and a section comment.
abbrev pub are_apart : Token → Token → Bool
are_apart left right =
    (is_wordlike left && is_wordlike right && not (is_literal left && is_literal right))
    || (is_number left && begins_with (is_one_of (codes ".+-")) right)
    || (ends_with (λ b. b == 46) left && is_number right)
    || (ends_with is_operator left && (begins_with is_operator right || is_comment right))
    || (is_join_or_verbatim left && is_comment right)

-- The bytes between a token and the one to its left, if any.
abbrev pub sep : Option Token → Token → List ℕ
sep None t = []
sep (Some l) t = if are_apart l t then codes " " else []
