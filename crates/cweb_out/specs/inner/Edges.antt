-- Printing from the edge of the last token, and the blanks between edges.
use Rattle.std.specs.Prelude.{ℕ, Bool, List, [], ◌++◌, codes, decimal, slice_index_or, true, false, ◌&&◌, ◌||◌, not}
use Rattle.std.specs.Prelude.{◌∷◌, if◌then◌else◌, ◌≡◌, is_some}
use Rattle.std.specs.List.{list_all}
use Rattle.cweb_store.specs.Parts.{Token, Newline, Defs, Mark, is_comment, all_tokens}
use Rattle.cweb_files.specs.declared.place.Place.{Place}
use Rattle.cweb_rules.specs.Edges.{is_one_of, is_operator}
use Rattle.cweb_out.specs.Printing.{Setting, quoted, mark_line, macro_lines, plain_bytes}
use Rattle.cweb_out.specs.Spacing.{is_wordlike, is_literal, is_number, begins_with}
use Rattle.cweb_out.specs.declared.printer.left.Left.{Left}
use Rattle.cweb_out.specs.surface.Printed.{is_dropped, left_after_token}
use Rattle.cweb_store.specs.Calls.{Stored}
use Rattle.cweb_store.specs.inner.StringLists.{TokenBytesModel}
use Rattle.cweb_store.specs.declared.edges.Edge.{Edge}
use Rattle.cweb_store.specs.inner.DirectBytes.{direct_bytes}
use Rattle.cweb_store.specs.declared.edges.Edge.TheVariants as edge_kind

-- A section's number between the two parts of a comment.
abbrev pub numbered_comment : List ℕ → ℕ → List ℕ → List ℕ
numbered_comment before n after = before ++ (decimal n ++ after)

-- A quote or a backslash.
abbrev pub wants_backslash : ℕ → Bool
wants_backslash b = is_one_of (codes "\"\\") b

-- The file name of a line mark.
abbrev pub file_name : Setting → Place → List ℕ
file_name s p = slice_index_or s.files p.file.0 []

-- The end of a line mark, from the blank after the line number on.
abbrev pub file_name_end : List ℕ → List ℕ
file_name_end name = codes " \"" ++ (quoted name ++ codes "\"\n")

-- The edge of a Word, a Number or a literal.
abbrev pub edge_is_wordlike : Edge → Bool
edge_is_wordlike edge_kind.Word = true
edge_is_wordlike edge_kind.Number = true
edge_is_wordlike edge_kind.Literal = true
edge_is_wordlike e = false

abbrev pub edge_is_literal : Edge → Bool
edge_is_literal e = elim e [ edge_kind.Literal ↦ true | _ ↦ false ]

abbrev pub edge_is_number : Edge → Bool
edge_is_number e = elim e [ edge_kind.Number ↦ true | _ ↦ false ]

-- A punctuator that ends in `.`.
abbrev pub edge_is_point : Edge → Bool
edge_is_point edge_kind.PlainPoint = true
edge_is_point edge_kind.OperatorPoint = true
edge_is_point edge_kind.NumericPoint = true
edge_is_point e = false

-- A punctuator that ends in an operator byte.
abbrev pub edge_is_operator : Edge → Bool
edge_is_operator edge_kind.PlainOperator = true
edge_is_operator edge_kind.OperatorOperator = true
edge_is_operator edge_kind.NumericOperator = true
edge_is_operator e = edge_is_point e

abbrev pub edge_is_glue : Edge → Bool
edge_is_glue e = elim e [ edge_kind.Glue ↦ true | _ ↦ false ]

abbrev pub edge_ends_line : Edge → Bool
edge_ends_line e = elim e [ edge_kind.LineEnd ↦ true | _ ↦ false ]

-- Whether a blank comes between a token with the edge and this one.
abbrev pub is_apart : Edge → Token → Bool
is_apart left right =
    (edge_is_wordlike left && is_wordlike right && not (edge_is_literal left && is_literal right))
    || (edge_is_number left && begins_with (is_one_of (codes ".+-")) right)
    || (edge_is_point left && is_number right)
    || (edge_is_operator left && (begins_with is_operator right || is_comment right))
    || (edge_is_glue left && is_comment right)

abbrev pub separator : Edge → Token → List ℕ
separator left t = if is_apart left t then codes " " else []

-- The bytes that a token adds. `text` gives its bytes after a token with an edge.
abbrev pub added : (Edge → Token → List ℕ) → Left → Token → List ℕ
added text left t = if is_dropped left t then [] else separator left.last t ++ text left.last t

-- The bytes that a list of tokens adds.
abbrev pub all_added : (Edge → Token → List ℕ) → Left → List Token → List ℕ
all_added text left [] = []
all_added text left (t ∷ ts) = added text left t ++ all_added text (left_after_token left t) ts

-- A newline, or nothing at the start of a line.
abbrev pub begin_by : Edge → List ℕ
begin_by left = if edge_ends_line left then [] else codes "\n"

-- A line mark or the macro lines, from a line start on.
abbrev pub own_line_bytes : Setting → Edge → Token → List ℕ
own_line_bytes s left (Mark p) = begin_by left ++ mark_line (file_name s p) p.line
own_line_bytes s left Defs = begin_by left ++ macro_lines s
own_line_bytes s left t = []

-- The bytes of a token in a file, after one with an edge.
abbrev pub file_by : Setting → Edge → Token → List ℕ
file_by s left t = own_line_bytes s left t ++ plain_bytes s.replaced t

-- A newline in a macro is preceded by a backslash.
abbrev pub continuation_bytes : Token → List ℕ
continuation_bytes Newline = codes " \\"
continuation_bytes t = []

abbrev pub macro_by : (ℕ → List ℕ) → Edge → Token → List ℕ
macro_by replaced left t = continuation_bytes t ++ plain_bytes replaced t

-- The state after a token with an edge.
abbrev pub left_after_edge : Edge → Left
left_after_edge b = record { last = b; joined = false }

-- Whether a blank comes between tokens with these edges.
abbrev pub edge_is_apart : Edge → Edge → Bool
edge_is_apart left edge_kind.Word = edge_is_wordlike left
edge_is_apart left edge_kind.Number = edge_is_wordlike left || edge_is_point left
edge_is_apart left edge_kind.Literal = edge_is_wordlike left && not (edge_is_literal left)
edge_is_apart left edge_kind.OperatorPlain = edge_is_operator left
edge_is_apart left edge_kind.OperatorOperator = edge_is_operator left
edge_is_apart left edge_kind.OperatorPoint = edge_is_operator left
edge_is_apart left edge_kind.NumericPlain = edge_is_number left || edge_is_operator left
edge_is_apart left edge_kind.NumericOperator = edge_is_number left || edge_is_operator left
edge_is_apart left edge_kind.NumericPoint = edge_is_number left || edge_is_operator left
edge_is_apart left b = false

-- The bytes in a macro, where a newline is preceded by a backslash.
abbrev pub continued_by : TokenBytesModel → List ℕ
continued_by l = if edge_ends_line l.edge then codes " \\\n" else l.string

-- The token at an index, which is below their number.
abbrev pub token_at : Stored → ℕ → Token
token_at w number = slice_index_or (all_tokens w.parts) number Token.Blank

-- Direct tokens: those that are printed as their own bytes.
abbrev pub is_direct : Token → Bool
is_direct t = is_some (direct_bytes t)

abbrev pub AreDirect : List Token → Type 0
AreDirect ts = list_all is_direct ts ≡ true
