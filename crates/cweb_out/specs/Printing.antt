-- How a list of tokens is printed, and the settings of a printer.
use Rattle.std.specs.Prelude.{slice_index_or, ℕ, Bool, true, false, ◌&&◌, nat_le, List, [], ◌∷◌, ◌++◌, codes, decimal}
use Rattle.std.specs.Prelude.{if◌then◌else◌, Option, Some, None, flat_map, ◌/◌, ◌%◌, map, filter, slice_index}
use Rattle.std.specs.Prelude.{◌||◌, unwrap_or}
use Rattle.std.specs.List.{last_or}
use Rattle.cweb_store.specs.Parts.{Token, Word, Number, Literal, Verbatim, Punct, Blank, Newline, Join, Defs, Head}
use Rattle.cweb_store.specs.Parts.{Tail, Mark, is_layout, is_macro, is_comment}
use Rattle.cweb_rules.specs.Edges.{is_one_of}
use Rattle.cweb_out.specs.Spacing.{sep}
use Rattle.cweb_store.specs.Parts as parts
use Rattle.cweb_store.specs.Calls.{Stored, replacement}

-- Whether a join is open after a token: only layout and section comments follow it.
abbrev pub stays_joined : Bool → Token → Bool
stays_joined joined Join = true
stays_joined joined t = (is_layout t || is_comment t) && joined

-- The tokens without the layout after a join.
abbrev pub without_joined_layout : Bool → List Token → List Token
without_joined_layout joined [] = []
without_joined_layout joined (t ∷ ts) = let rest = without_joined_layout (stays_joined joined t) ts in
    if joined && is_layout t then rest else t ∷ rest

-- The separators and bytes of tokens after a token. `text` gives the bytes of a token after the one to its left.
abbrev pub print_after : (Option Token → Token → List ℕ) → Option Token → List Token → List ℕ
print_after text left [] = []
print_after text left (t ∷ ts) = (sep left t ++ text left t) ++ print_after text (Some t) ts

-- The separators and bytes of a list from a line start on, without the layout after joins.
abbrev pub printed_tokens : (Option Token → Token → List ℕ) → List Token → List ℕ
printed_tokens text ts = print_after text None (without_joined_layout false ts)

-- A byte of a Word. `replaced` gives the bytes for a byte from 128 on.
abbrev pub word_byte : (ℕ → List ℕ) → ℕ → List ℕ
word_byte replaced b = if nat_le 128 b then replaced b else b ∷ []

-- The bytes of a Word.
abbrev pub word_bytes : (ℕ → List ℕ) → List ℕ → List ℕ
word_bytes replaced bytes = flat_map (word_byte replaced) bytes

-- The bytes of a token that don't depend on the token to its left.
abbrev pub plain_bytes : (ℕ → List ℕ) → Token → List ℕ
plain_bytes replaced (Word b) = word_bytes replaced b
plain_bytes replaced (Number b) = b
plain_bytes replaced (Literal b) = b
plain_bytes replaced (Verbatim b) = b
plain_bytes replaced (Punct b) = b
plain_bytes replaced Blank = codes " "
plain_bytes replaced Newline = codes "\n"
plain_bytes replaced (Head n) = codes "/*" ++ (decimal n ++ codes ":*/")
plain_bytes replaced (Tail n) = codes "/*:" ++ (decimal n ++ codes "*/")
plain_bytes replaced t = []

-- A newline in a macro is preceded by a backslash.
abbrev pub macro_token_bytes : (ℕ → List ℕ) → Token → List ℕ
macro_token_bytes replaced Newline = codes " \\\n"
macro_token_bytes replaced t = plain_bytes replaced t

-- The `#define` line of a macro.
abbrev pub macro_line : (ℕ → List ℕ) → List Token → List ℕ
macro_line replaced ts = codes "#define " ++ (printed_tokens (λ left. macro_token_bytes replaced) ts ++ codes "\n")

-- What printing reads beside tokens: replacements, file names and macros.
pub record Setting : Type 0 where
  pub replaced : ℕ → List ℕ
  pub files : List (List ℕ)
  pub macros : List (List Token)

-- The lines of all macros, in order.
abbrev pub macro_lines : Setting → List ℕ
macro_lines s = flat_map (macro_line s.replaced) s.macros

-- The next token begins a line.
abbrev pub starts_line : Option Token → Bool
starts_line None = true
starts_line (Some t) = elim t [ Newline ↦ true | Mark p ↦ true | Defs ↦ true | _ ↦ false ]

-- A newline, or nothing at the start of a line.
abbrev pub begin_line : Option Token → List ℕ
begin_line left = if starts_line left then [] else codes "\n"

-- A byte of a quoted file name. A quote or a backslash is preceded by a backslash.
abbrev pub quoted_byte : ℕ → List ℕ
quoted_byte b = if is_one_of (codes "\"\\") b then 92 ∷ b ∷ [] else b ∷ []

-- The bytes of a quoted file name.
abbrev pub quoted : List ℕ → List ℕ
quoted name = flat_map quoted_byte name

-- The line mark: the next source line is this one of this file.
abbrev pub mark_line : List ℕ → ℕ → List ℕ
mark_line name line = codes "#line " ++ (decimal line ++ (codes " \"" ++ (quoted name ++ codes "\"\n")))

-- The bytes of a token in a file, after the token to its left.
abbrev pub file_token_bytes : Setting → Option Token → Token → List ℕ
file_token_bytes s left (Mark p) = begin_line left ++ mark_line (slice_index_or s.files p.file.0 []) p.line
file_token_bytes s left Defs = begin_line left ++ macro_lines s
file_token_bytes s left t = plain_bytes s.replaced t

-- The bytes that a list of tokens prints.
abbrev pub print : Setting → List Token → List ℕ
print s ts = printed_tokens (file_token_bytes s) ts

-- The last printed token of a list.
abbrev pub left_after : List Token → Option Token
left_after ts = last_or None (without_joined_layout false ts)

-- All bytes of a file. Its last line is ended.
abbrev pub file : Setting → List Token → List ℕ
file s ts = print s ts ++ begin_line (left_after ts)

-- The ASCII code of a hexadecimal digit.
abbrev pub hex_digit : ℕ → ℕ
hex_digit n = slice_index (codes "0123456789ABCDEF") n

-- The default replacement of a byte from 128 on: `X` and two hexadecimal digits.
abbrev pub default_replacement : ℕ → List ℕ
default_replacement b = 88 ∷ hex_digit (b / 16) ∷ hex_digit (b % 16) ∷ []

-- The replacement of a byte in a store.
abbrev pub replaced_in : Stored → ℕ → List ℕ
replaced_in w b = unwrap_or (replacement w.replacements b) (default_replacement b)

-- The tokens of each macro, in order.
abbrev pub macros : Stored → List (List Token)
macros w = map (λ (p : parts.Part). p.tokens) (filter (λ (p : parts.Part). is_macro p.kind) w.parts)

-- The setting of a store and the names of the files of its line marks.
abbrev pub setting : Stored → List (List ℕ) → Setting
setting w files = record { replaced = replaced_in w; files = files; macros = macros w }
