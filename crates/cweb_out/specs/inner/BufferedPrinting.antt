-- What an output buffer has, and what is printed into it.
use Rattle.std.specs.Prelude.{◌≡◌, ℕ, List, ◌++◌, Bool, [], codes, if◌then◌else◌}
use Rattle.cweb_store.specs.Parts.{Token}
use Rattle.cweb_out.specs.Printing.{print}
use Rattle.cweb_out.specs.surface.Printed.{left_after_tokens, left_in_printer, setting_of}
use Rattle.cweb_out.specs.inner.Edges.{AreDirect}
use Rattle.cweb_out.specs.declared.printer.left.Left.{Left}
use Rattle.cweb_out.specs.declared.printer.Printer.{Printer}
use Rattle.cweb_files.specs.Sinks.{SinkModel, failing, with_printed}

-- Each list that leads to the old state leads to the new one with these tokens appended.
abbrev pub MovesBy : Left → List Token → Left → Type 0
MovesBy old ts new = (done : List Token) → left_after_tokens done ≡ old → left_after_tokens (done ++ ts) ≡ new

-- `new` has the suffix over `old` that `after` has over `before`.
pub record AddsBytes (before after old new : List ℕ) : Type 0 where
  pub bytes : List ℕ
  pub expected : after ≡ before ++ bytes
  pub written : new ≡ old ++ bytes

-- For each list that leads to the printer's state, the suffix that these tokens add to its `print` is appended.
abbrev pub PrintsBy : Printer → List Token → List ℕ → List ℕ → Type 0
PrintsBy p ts old new = (done : List Token) → left_after_tokens done ≡ left_in_printer p
    → AddsBytes (print (setting_of p) done) (print (setting_of p) (done ++ ts)) old new

-- A prefix of the remaining tokens was printed. All its tokens are direct.
pub record PrintsPrefix (before after : Printer) (left left' : List Token) (old new : List ℕ) : Type 0 where
  pub done : List Token
  pub whole : left ≡ done ++ left'
  pub direct : AreDirect done
  pub moves : MovesBy (left_in_printer before) done (left_in_printer after)
  pub prints : PrintsBy before done old new

-- The buffered bytes.
pub record Buffered : Type 0 where
  pub bytes : List ℕ

-- A prefix of the buffered bytes went to the sink, which then failed, and the rest is still buffered.
pub record FlushesPrefix (before after : List ℕ) (old new : SinkModel) : Type 0 where
  pub prefix : List ℕ
  pub whole : before ≡ prefix ++ after
  pub is : new ≡ failing (with_printed prefix) old

-- A blank, or nothing.
abbrev pub blank_where : Bool → List ℕ
blank_where is_apart = if is_apart then codes " " else []
