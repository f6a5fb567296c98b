-- The counters and the limits of what is taken.
use Rattle.std.specs.Prelude.{◌≡◌, ℕ, ◌+◌, ◌≤◌, ◌<◌, ◌⊎◌}
use Rattle.cweb_files.specs.declared.place.FileId.{FileId}
use Rattle.cweb_lines.specs.Lines.{SourceLine}
use Rattle.cweb_lines.specs.declared.limits.TheConstants.{LINES, BYTES, LINE_LENGTH}
use Rattle.cweb_lines.specs.declared.stop.Stop.{Stop}
use Rattle.cweb_lines.specs.declared.stop.Stop.TheVariants.{LineTooLong, TooMuchText}

-- The number of lines and bytes that were taken so far.
pub record TakenCountersModel : Type 0 where
  pub lines : ℕ
  pub bytes : ℕ

-- The line is in this file and exceeds the maximum length.
abbrev pub IsTooLong : FileId → SourceLine → Type 0
IsTooLong file line = (line.line.place.file ≡ file) × (LINE_LENGTH < line.length)

-- With this line, which isn't too long, the lines or the bytes exceed the limit.
pub record PassesLimit (count : TakenCountersModel) (line : SourceLine) : Type 0 where
  pub passes : (count.lines ≡ LINES) ⊎ (BYTES < count.bytes + line.size)
  pub short : line.length ≤ LINE_LENGTH

-- The line causes the stop. Other kinds of stops have no line.
abbrev pub RefusesLine : Stop → TakenCountersModel → SourceLine → Type 0
RefusesLine (LineTooLong file) count line = IsTooLong file line
RefusesLine TooMuchText count line = PassesLimit count line
RefusesLine _ count line = ⊥
