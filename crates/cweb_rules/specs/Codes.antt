-- The effect of each control code in each context (CWEB manual, "Control codes").
use Rattle.std.specs.Prelude.{ℕ, List, [], ◌∷◌, codes, if◌then◌else◌}
use Rattle.cweb_rules.specs.declared.effect.Effect.{Effect}
use Rattle.cweb_rules.specs.declared.effect.Effect.TheVariants.{Nothing, Define, Format, Program, Named, Letter}
use Rattle.cweb_rules.specs.declared.effect.Effect.TheVariants.{ControlText, Verbatim, Constant, InsertDefs, Joins}
use Rattle.cweb_rules.specs.declared.effect.Effect.TheVariants.{EmitAt, Faulty}
use Rattle.cweb_rules.specs.declared.fault.ScanKind.TheVariants.{DoubleAtInLimbo, LetterOutsideLimbo, IgnoredInCText}
use Rattle.cweb_rules.specs.declared.fault.ScanKind.TheVariants.{DefsInMacro}
use Rattle.cweb_rules.specs.Bytes.{lower}
use Rattle.cweb_rules.specs.Edges.{is_one_of}

-- A row of the table: letters in lower case, and their effects in TeX, in a macro and in C text.
pub record CodeEntry : Type 0 where
  pub letters : List ℕ
  pub in_tex : Effect
  pub in_macro : Effect
  pub in_c : Effect

-- A row with these fields.
abbrev code_entry : List ℕ → Effect → Effect → Effect → CodeEntry
code_entry letters in_tex in_macro in_c =
    record { letters = letters; in_tex = in_tex; in_macro = in_macro; in_c = in_c }

-- The table of control codes after the first section began.
abbrev pub code_table : List CodeEntry
code_table =
    code_entry (codes "d") Define Define (Faulty IgnoredInCText)
    ∷ code_entry (codes "fs") Nothing Format (Faulty IgnoredInCText)
    ∷ code_entry (codes "cp") Program Program (Faulty IgnoredInCText)
    ∷ code_entry (codes "<(") Named Named Named
    ∷ code_entry (codes "h") Nothing (Faulty DefsInMacro) InsertDefs
    ∷ code_entry (codes "&") Nothing Joins Joins
    ∷ code_entry (codes "=") Nothing Verbatim Verbatim
    ∷ code_entry (codes "'") Nothing Constant Constant
    ∷ code_entry (codes "^.:tq") Nothing ControlText ControlText
    ∷ code_entry (codes "l") Nothing (Faulty LetterOutsideLimbo) (Faulty LetterOutsideLimbo)
    ∷ code_entry (codes "@") Nothing EmitAt EmitAt
    ∷ []

-- The row of a letter. A letter without a row has no effect.
abbrev pub entry_for : List CodeEntry → ℕ → CodeEntry
entry_for [] letter = code_entry [] Nothing Nothing Nothing
entry_for (r ∷ rs) letter = if is_one_of r.letters letter then r else entry_for rs letter

-- The effect of a code in TeX.
abbrev pub in_tex : ℕ → Effect
in_tex letter = (entry_for code_table (lower letter)).in_tex

-- The effect of a code in a macro.
abbrev pub in_macro : ℕ → Effect
in_macro letter = (entry_for code_table (lower letter)).in_macro

-- The effect of a code in C text.
abbrev pub in_c : ℕ → Effect
in_c letter = (entry_for code_table (lower letter)).in_c

-- The effect of a code before the first section.
abbrev pub in_limbo : ℕ → Effect
in_limbo letter =
    if is_one_of (codes "@fs") (lower letter) then Nothing
    else (if is_one_of (codes "q") (lower letter) then ControlText
    else (if is_one_of (codes "l") (lower letter) then Letter
    else Faulty DoubleAtInLimbo))
