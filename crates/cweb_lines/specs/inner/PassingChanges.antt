-- Changes whose lines are in the buffers.
use Rattle.std.specs.Prelude.{◌≡◌, ◌≤◌, ◌<◌, ◌+◌, ◌++◌, ℕ, List, [], ◌∷◌, length, map, slice_range, Option, None, Some}
use Rattle.std.specs.Prelude.{Result, Ok, Bool, true}
use Rattle.std.specs.List.{AllByRecursion}
use Rattle.cweb_lines.specs.Change.{change_code}
use Rattle.cweb_lines.specs.Lines.{Place, trimmed}
use Rattle.cweb_lines.specs.declared.change.code.Code.TheVariants.{NewSide as new_side}
use Rattle.cweb_lines.specs.surface.MergeProgress.{MergeState, change_lines}
use Rattle.cweb_lines.specs.surface.MergerCalls.{AreReadersKnown}
use Rattle.cweb_lines.specs.surface.OpenSources.{OpenSource, counters_of, matches_at}
use Rattle.cweb_lines.specs.inner.OpenSources.{CountsLine}
use Rattle.cweb_lines.specs.inner.Passing.{AppendsPassedLines, IsRunAt, IsStretchAt, buffer_of, stretch_bytes, with_newlines}
use Rattle.cweb_lines.specs.inner.StepCalls.{OnlyTakes}
use Rattle.cweb_lines.specs.declared.counters.TakenCounters.{TakenCounters}
use Rattle.cweb_lines.specs.declared.limits.TheConstants.{BYTES, LINES}
use Rattle.cweb_lines.specs.declared.passing.next.LinesAhead.{LinesAhead}
use Rattle.cweb_lines.specs.declared.passing.old_side.OldSideAhead.{OldSideAhead}
use Rattle.cweb_lines.specs.declared.passing.stretch.Stretch.{Stretch}

-- One line comes next in the buffer of a slot's source. It is no include line.
abbrev pub IsNextLine : {R : Type 0} → Option (OpenSource R) → Stretch → Type 0
IsNextLine slot s = (raw : List ℕ) × IsStretchAt None slot s (raw ∷ [])

-- The last of some lines in the buffer of a slot's source, trimmed.
abbrev pub last_bytes : {R : Type 0} → Option (OpenSource R) → LinesAhead → List ℕ
last_bytes slot lines = slice_range (buffer_of slot) lines.last lines.all.text

-- These lines and one more come next in the buffer of a slot's source. None is an include line.
pub record AreAhead {R : Type 0} (slot : Option (OpenSource R)) (lines : LinesAhead) (before : List (List ℕ))
    (raw : List ℕ) : Type 0 where
  pub in_place : IsRunAt None slot lines.all (before ++ raw ∷ [])
  pub bytes : last_bytes slot lines ≡ trimmed raw
  pub order : lines.last ≤ lines.all.text
  pub within : lines.all.text ≤ length (buffer_of slot)
  pub small : length (with_newlines (before ++ raw ∷ [])) ≤ 1048576

-- The web's next lines equal the first old line of an entry and these further ones. One more line of the change file
-- comes next.
pub record IsPartOfOldSide {R : Type 0} (web change : Option (OpenSource R)) (first : List ℕ)
    (ahead : OldSideAhead) : Type 0 where
  pub before : List (List ℕ)
  pub raw : List ℕ
  pub olds : List (List ℕ)
  pub last : List ℕ
  pub web_is : AreAhead web ahead.web before raw
  pub side_is : AreAhead change ahead.side olds last
  pub equal : map trimmed (before ++ raw ∷ []) ≡ first ∷ map trimmed olds
  pub plain : AllByRecursion (λ line. change_code (trimmed line) ≡ None) olds
  pub matches : matches_at web ≡ true

-- The web's next lines equal the old lines of an entry, and @y follows these in the change file.
pub record IsOldSide {R : Type 0} (web change : Option (OpenSource R)) (first : List ℕ)
    (ahead : OldSideAhead) : Type 0 where
  pub part : IsPartOfOldSide web change first ahead
  pub turns : change_code (last_bytes change ahead.side) ≡ Some new_side

-- Lines with the bytes of two lines of the maximum length are within the limits, however many they are.
pub record HasRoomForTwo (limits : TakenCounters) : Type 0 where
  pub few : limits.lines + 2097152 ≤ LINES
  pub small : limits.bytes + 2097152 ≤ BYTES

-- The place of a source's next line.
abbrev pub place_next : {R : Type 0} → Option (OpenSource R) → Place
place_next None = record { file = record { 0 = 0 }; line = 0 }
place_next (Some text) = record { file = text.file; line = text.line + 1 }

-- The next line of the change file is taken and counted.
pub record TakesChangeLine {R : Type 0} (old new : MergeState R) (s : Stretch) : Type 0 where
  pub takes : (left : R → List ℕ)
      → (t : CountsLine (stretch_bytes old.change s) (place_next old.change) (counters_of old.limits)
      (counters_of new.limits)) × (change_lines left old ≡ t.line ∷ change_lines left new)
  pub only : OnlyTakes old new
  pub stack : new.stack ≡ old.stack
  pub counted : new.limits.lines ≡ old.limits.lines + 1
  pub readers : (opened_as : R → List ℕ) → AreReadersKnown opened_as old → AreReadersKnown opened_as new

-- Lines of a change are taken, and none is emitted. Otherwise nothing changes.
pub record PassesSilently {R E : Type 0} (old new : MergeState R) (result : Result Bool E) : Type 0 where
  pub passes : (room : ℕ) (buffer : List ℕ) → AppendsPassedLines room old new buffer buffer
  pub counted : result ≡ Ok true → old.limits.lines < new.limits.lines

-- Lines of a change are taken, and its new lines are appended to a buffer. Otherwise nothing changes.
pub record PassesChange {R E : Type 0} (room : ℕ) (old new : MergeState R) (buffer more : List ℕ)
    (result : Result Bool E) : Type 0 where
  pub passes : AppendsPassedLines room old new buffer more
  pub counted : result ≡ Ok true → old.limits.lines < new.limits.lines
