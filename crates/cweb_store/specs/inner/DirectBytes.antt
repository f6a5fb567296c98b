-- Direct tokens: those that are printed as their own bytes, whatever is to their left.
use Rattle.std.specs.Prelude.{Option, None, Some, codes, if◌then◌else◌}
use Rattle.std.specs.List.{list_any}
use Rattle.cweb_store.specs.Parts.{Token, Word, Number, Literal, Verbatim, Punct, Blank, Newline}
use Rattle.cweb_store.specs.declared.edges.Edge.TheVariants as edge_kind
use Rattle.cweb_store.specs.inner.StringLists.{TokenBytesModel, is_high}
use Rattle.cweb_store.specs.surface.Tokens.{punctuator_edge}

-- The bytes of a direct token, or `None`.
abbrev pub direct_bytes : Token → Option TokenBytesModel
direct_bytes (Word b) = if list_any is_high b then None else Some (record { string = b; edge = edge_kind.Word })
direct_bytes (Number b) = Some (record { string = b; edge = edge_kind.Number })
direct_bytes (Literal b) = Some (record { string = b; edge = edge_kind.Literal })
direct_bytes (Verbatim b) = Some (record { string = b; edge = edge_kind.Glue })
direct_bytes (Punct b) = if list_any is_high b then None else Some (record { string = b; edge = punctuator_edge b })
direct_bytes Blank = Some (record { string = codes " "; edge = edge_kind.Blank })
direct_bytes Newline = Some (record { string = codes "\n"; edge = edge_kind.LineEnd })
direct_bytes t = None
