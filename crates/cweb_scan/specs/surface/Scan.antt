-- The result of a scan, its bounds, and how a scan ends early.
use Rattle.std.specs.Prelude.{◌≤◌, ℕ, ◌+◌, List, [], ◌∷◌, length, ◌≡◌, ◌<◌, All, Option, Some}
use Rattle.cweb_lines.specs.Lines.{Line}
use Rattle.cweb_store.specs.Parts.{all_tokens, Token, Mark}
use Rattle.cweb_store.specs.Calls.{Stored}
use Rattle.cweb_store.specs.surface.Tokens.{uninterned_store_bytes}
use Rattle.cweb_lines.specs.Events.{Event, emitted_lines}
use Rattle.cweb_lines.specs.declared.limits.TheConstants.{LINES, BYTES}
use Rattle.cweb_lines.specs.surface.MergeProgress.{SoFar, EmitsLines, StopsAfterLines, ReportsPrefix}
use Rattle.cweb_lines.specs.surface.OpenSources.{StopsFor, StopsReading}
use Rattle.cweb_lines.specs.declared.stop.Stop.{Stop}
use Rattle.cweb_scan.specs.Lexemes.{Scanned, scanned}
use Rattle.cweb_scan.specs.declared.scanner.scanned.Scanned as code

-- The bytes plus the lines of a web.
abbrev pub web_size : List Line → ℕ
web_size [] = 0
web_size (line ∷ lines) = length line.bytes + 1 + web_size lines

-- At most n tokens, and n bytes of strings counted as often as they occur. `text_bytes` is no greater.
pub record IsBounded (store : Stored) (n : ℕ) : Type 0 where
  pub tokens : length (all_tokens store.parts) ≤ n
  pub bytes : uninterned_store_bytes store ≤ n

-- A Mark is in one of the first `files` files.
abbrev pub IsMarkBelow : ℕ → Token → Type 0
IsMarkBelow files (Mark place) = place.file.0 < files
IsMarkBelow files t = Unit {0}

-- All Marks and faults are in the first `files` files.
pub record IsScanBelow (files : ℕ) (s : Scanned) : Type 0 where
  pub marks : All (IsMarkBelow files) (all_tokens s.store.parts)
  pub faults : All (λ f. f.place.file.0 < files) s.faults

-- All lines are in the first `files` files.
abbrev pub AreLinesBelow : ℕ → List Line → Type 0
AreLinesBelow files lines = All (λ line. line.place.file.0 < files) lines

-- Some lines of opened files were scanned, within the merger's limits. All Marks and faults are in opened files. The
-- store has at most as many tokens and bytes as these lines have bytes, newlines included.
pub record ScansWithinLimits (reported : SoFar) (s : Scanned) : Type 0 where
  pub lines : List Line
  pub made : s ≡ scanned lines
  pub opened : AreLinesBelow (length reported.names) lines
  pub few : web_size lines ≤ BYTES + LINES
  pub below : IsScanBelow (length reported.names) s
  pub bounded : IsBounded s.store (web_size lines)

-- All remaining lines were taken and scanned. The store is bounded by the bytes and lines taken.
pub record Scans (s : Scanned) (old new : SoFar) (all : List Event) : Type 0 where
  pub made : s ≡ scanned (emitted_lines all)
  pub yields : EmitsLines (emitted_lines all) old new all []
  pub small : IsBounded s.store (new.count.bytes + new.count.lines)

-- After some lines comes one that can't be taken.
pub record StopsAfter (stop : Stop) (old new : SoFar) (all : List Event) : Type 0 where
  pub lines : List Line
  pub stops : StopsAfterLines lines stop old new all

-- Why a scan ended early. The events so far are a prefix of all events.
pub record ScanEndsEarly (stop : Stop) (old new : SoFar) (all : List Event) : Type 0 where
  pub why : StopsFor (StopsAfter stop old new all) stop
  pub reported : ReportsPrefix old new all

-- After a stop: the merger stores it.
pub record LeavesStop (stop : Stop) (in_merger : Option Stop) : Type 0 where
  pub kind : StopsReading stop
  pub kept : in_merger ≡ Some stop

-- The model of a scan's result.
abbrev pub scanned_model : code.Scanned → Scanned
scanned_model s = record { store = s.store; faults = s.faults.items; sections = s.sections; starred = s.starred.items }
