-- Definitions that only proofs cite.
use Rattle.std.specs.Prelude.{◌≡◌, ◌<◌, ◌++◌, ℕ, List, [], length}
use Rattle.cweb_lines.specs.Lines.{Line}
use Rattle.cweb_lines.specs.Events.{Event, written_lines}
use Rattle.cweb_lines.specs.surface.MergeProgress.{SoFar, EmitsLines}
use Rattle.cweb_lines.specs.Change.{Sought}
use Rattle.cweb_lines.specs.inner.Passing.{all_but_last}

-- All emitted lines were written.
pub record HasWritten (old new : SoFar) (all now : List Event) (Wrote : List ℕ → Type 0) : Type 0 where
  pub lines : List Line
  pub yields : EmitsLines lines old new all now
  pub wrote : Wrote (written_lines lines)

-- The initial state of a merge with these files open.
abbrev pub begun_with : List (List ℕ) → SoFar
begun_with names = record { faults = []; names = names; count = record { lines = 0; bytes = 0 } }

-- Some of a search was done, and `now` is the rest of it.
pub record SeeksTo (all now : Sought) (old new : SoFar) : Type 0 where
  pub yields : EmitsLines [] old new all.events now.events
  pub entry : all.entry ≡ now.entry
  pub rest : all.rest ≡ now.rest

-- Some lines were written, and others are buffered: at least one. If there are several, all but the last have fewer
-- than `room` bytes.
pub record BuffersLines (room : ℕ) (old new : SoFar) (all now : List Event) (Wrote : List ℕ → Type 0)
    (buffer : List ℕ) : Type 0 where
  pub done : List Line
  pub buffered : List Line
  pub yields : EmitsLines (done ++ buffered) old new all now
  pub wrote : Wrote (written_lines done)
  pub piece_is : buffer ≡ written_lines buffered
  pub some : 0 < length buffered
  pub within : 1 < length buffered → length (written_lines (all_but_last buffered)) < room
