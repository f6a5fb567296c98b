-- How literals of C text begin.
use Rattle.std.specs.Prelude.{ℕ, Bool, List, ◌+◌, ◌||◌, ◌&&◌, nat_le, ◌++◌, take, drop, codes, if◌then◌else◌}
use Rattle.std.specs.List.{prefix_len}
use Rattle.cweb_rules.specs.Bytes.{begins, is_delimiter}
use Rattle.cweb_rules.specs.declared.literals.TheConstants.{MAX_DELIMITER}

-- A quote is at this offset.
abbrev pub has_quote_at : ℕ → List ℕ → Bool
has_quote_at n t = begins (codes "\"") (drop n t) || begins (codes "'") (drop n t)

-- The length of `L`, `u`, `U` or `u8` before a quote.
abbrev pub literal_prefix : List ℕ → ℕ
literal_prefix t =
    if begins (codes "u8") t && has_quote_at 2 t then 2
    else (if (begins (codes "L") t || begins (codes "u") t || begins (codes "U") t) && has_quote_at 1 t then 1 else 0)

-- A literal begins with a quote, with a prefix or without.
abbrev pub starts_literal : List ℕ → Bool
starts_literal t = has_quote_at (literal_prefix t) t

-- The quote that is next: `"` unless it is `'`.
abbrev pub quote_of : List ℕ → ℕ
quote_of t = if begins (codes "'") t then 39 else 34

-- The length of `L`, `u`, `U` or `u8` before `R"`.
abbrev pub raw_prefix : List ℕ → ℕ
raw_prefix t =
    if begins (codes "u8R\"") t then 2
    else (if begins (codes "LR\"") t || begins (codes "uR\"") t || begins (codes "UR\"") t then 1 else 0)

-- The longest span of delimiter bytes is short enough, and `(` follows it.
abbrev pub has_delimiter : List ℕ → Bool
has_delimiter t = let n = prefix_len is_delimiter t in nat_le n MAX_DELIMITER && begins (codes "(") (drop n t)

-- A raw literal begins with `R"`, a delimiter and `(`, with a prefix or without.
abbrev pub starts_raw : List ℕ → Bool
starts_raw t = let n = raw_prefix t in begins (codes "R\"") (drop n t) && has_delimiter (drop (n + 2) t)

-- The delimiter after `R"`.
abbrev pub delimiter : List ℕ → List ℕ
delimiter t = take (prefix_len is_delimiter t) t

-- The closer of a raw literal: `)`, the delimiter and `"`.
abbrev pub raw_closer : List ℕ → List ℕ
raw_closer t = codes ")" ++ delimiter t ++ codes "\""
