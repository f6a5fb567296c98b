-- A printer's state, and the bytes that its calls add to a sink.
use Rattle.std.specs.Prelude.{ℕ, Bool, false, ◌&&◌, List, Option, None, Some, if◌then◌else◌, fold, ◌≡◌, [], ◌∷◌, ◌++◌}
use Rattle.std.specs.Prelude.{Result, ◌<◌, length, slice_range}
use Rattle.cweb_store.specs.Parts.{Token, Word, Number, Literal, Verbatim, Punct, Blank, Newline, Join, Defs, Mark}
use Rattle.cweb_store.specs.Parts.{is_layout, all_tokens}
use Rattle.cweb_out.specs.Printing.{stays_joined, Setting, print, file, setting}
use Rattle.cweb_store.specs.declared.edges.Edge.{Edge}
use Rattle.cweb_store.specs.surface.Tokens.{punctuator_edge, tokens_at}
use Rattle.cweb_out.specs.declared.printer.left.Left.{Left}
use Rattle.cweb_files.specs.Sinks.{SinkModel}
use Rattle.cweb_files.specs.surface.Writes.{Wrote}
use Rattle.cweb_lines.specs.surface.OpenedFileNames.{opened_file_names}
use Rattle.cweb_out.specs.declared.printer.Printer.{Printer}
use Rattle.cweb_store.specs.declared.parts.Part.{Part}
use Rattle.cweb_store.specs.Calls.{Stored}
use Rattle.cweb_store.specs.declared.edges.Edge.TheVariants as edge_kind

-- The edge of the token to the left, if any. It decides on a blank after that token.
abbrev pub edge_of : Option Token → Edge
edge_of None = edge_kind.LineEnd
edge_of (Some (Word b)) = edge_kind.Word
edge_of (Some (Number b)) = edge_kind.Number
edge_of (Some (Literal b)) = edge_kind.Literal
edge_of (Some (Verbatim b)) = edge_kind.Glue
edge_of (Some (Punct b)) = punctuator_edge b
edge_of (Some Newline) = edge_kind.LineEnd
edge_of (Some Join) = edge_kind.Glue
edge_of (Some Defs) = edge_kind.LineEnd
edge_of (Some (Mark p)) = edge_kind.LineEnd
edge_of (Some t) = edge_kind.Blank

-- Layout after a join is dropped.
abbrev pub is_dropped : Left → Token → Bool
is_dropped left t = left.joined && is_layout t

-- The state after one more token.
abbrev pub left_after_token : Left → Token → Left
left_after_token left t =
    if is_dropped left t then left else record { last = edge_of (Some t); joined = stays_joined left.joined t }

-- The state before the first token.
abbrev pub at_start : Left
at_start = record { last = edge_kind.LineEnd; joined = false }

abbrev pub left_after_tokens : List Token → Left
left_after_tokens ts = fold left_after_token at_start ts

-- The setting of a printer.
abbrev pub setting_of : Printer → Setting
setting_of p = setting p.store.now (opened_file_names p.names.now)

abbrev pub left_in_printer : Printer → Left
left_in_printer p = p.left

-- Bytes are written, or after a fault a prefix of them. For each list that leads to the printer's state, they are the
-- suffix of `after` over `before`.
pub record AddsSuffix {A E : Type 0} (p : Printer) (before after : List Token → List ℕ) (old new : SinkModel)
    (result : Result A E) : Type 0 where
  pub bytes : List ℕ
  pub expected : (ts : List Token) → left_after_tokens ts ≡ left_in_printer p → after ts ≡ before ts ++ bytes
  pub wrote : Wrote bytes old new result

-- The suffix that the token adds to `print` is written.
abbrev pub PrintsToken : {A E : Type 0} → Printer → Token → SinkModel → SinkModel → Result A E → Type 0
PrintsToken p t old new result =
    AddsSuffix p (print (setting_of p)) (λ ts. print (setting_of p) (ts ++ t ∷ [])) old new result

-- The suffix of `file` over `print` is written.
abbrev pub EndsFile : {A E : Type 0} → Printer → SinkModel → SinkModel → Result A E → Type 0
EndsFile p old new result = AddsSuffix p (print (setting_of p)) (file (setting_of p)) old new result

-- Each list that leads to the old state leads to the new one with the token appended.
abbrev pub Moves : Left → Token → Left → Type 0
Moves old t new = (ts : List Token) → left_after_tokens ts ≡ old → left_after_tokens (ts ++ t ∷ []) ≡ new

-- The file of a line mark has a name.
abbrev pub MarkFileIsNamed : Setting → Token → Type 0
MarkFileIsNamed s (Mark p) = p.file.0 < length s.files
MarkFileIsNamed s t = Unit {0}

-- The tokens of a part.
abbrev pub tokens_of_part : Stored → Part → List Token
tokens_of_part w part = slice_range (all_tokens w.parts) part.first part.after

abbrev pub tokens_of_parts : Stored → List Part → List Token
tokens_of_parts w runs = tokens_at (all_tokens w.parts) runs
