-- Printed C text reads back as the tokens that were printed.
use Rattle.std.specs.Prelude.{◌≡◌, Bool, true, false, nat_le, not, List, codes, Some, All, ℕ}
use Rattle.std.specs.List.{list_all}
use Rattle.cweb_store.specs.Parts.{Token, Word, Number, Literal, Punct, Blank, Newline, Head, Tail}
use Rattle.cweb_scan.specs.Effects.{Reading}
use Rattle.cweb_scan.specs.State.{is_punct}
use Rattle.cweb_scan.specs.Lexemes.{lex, ReadsAlone, InPlainC, HasReadTokens, doubled, significant, is_hash}
use Rattle.cweb_out.specs.Printing.{Setting, print}

-- All bytes are below 128.
abbrev pub is_ascii : List ℕ → Bool
is_ascii bytes = list_all (λ b. not (nat_le 128 b)) bytes

-- Layout, section comments, ASCII words, numbers, literals and punctuators that read alone, except `#` and `##`.
abbrev pub IsPlain : Token → Type 0
IsPlain Blank = Unit {0}
IsPlain Newline = Unit {0}
IsPlain (Head section) = Unit {0}
IsPlain (Tail section) = Unit {0}
IsPlain (Word bytes) = (is_ascii bytes ≡ true) × ReadsAlone (Word bytes)
IsPlain (Number bytes) = ReadsAlone (Number bytes)
IsPlain (Literal bytes) = ReadsAlone (Literal bytes)
IsPlain (Punct bytes) = (is_hash (Punct bytes) ≡ false) × (is_punct (codes "##") (Some (Punct bytes)) ≡ false)
    × ReadsAlone (Punct bytes)
IsPlain token = ⊥

-- Printed tokens, with each `@` doubled, read back as these tokens in an open C part outside directives.
abbrev pub Spacing : Type 0
Spacing = (setting : Setting) (tokens : List Token) → All IsPlain tokens → (r : Reading) → InPlainC r.state →
    HasReadTokens r.state (lex r (doubled (print setting tokens))).state (significant tokens)
