-- What one write to a stream or a file does.
use Rattle.std.specs.Prelude.{◌≤◌, ◌<◌, ℕ, List, IfOk, Option, Result, length}
use Rattle.std.specs.Io.KnownBytes.{WriteAppends}

-- A prefix of some bytes is written, nonempty if they are. Known contents gain just that.
pub record WritesPart {E : Type 0} (old new : Option (List ℕ)) (piece : List ℕ) (result : Result ℕ E) : Type 0 where
  pub within : IfOk result (λ n. n ≤ length piece)
  pub some : 0 < length piece → IfOk result (λ n. 0 < n)
  pub appends : WriteAppends old new result piece
