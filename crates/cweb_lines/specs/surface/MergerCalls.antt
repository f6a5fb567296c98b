-- The calls of a merger.
use Rattle.std.specs.Prelude.{ℕ, List, ◌≡◌, ◌≤◌, ◌<◌, ◌+◌, [], ◌∷◌, length, Option, None, Some, Result, Ok, IfErr, OnOk}
use Rattle.std.specs.Prelude.{OnErr}
use Rattle.cweb_lines.specs.surface.OpenedFileNames.{opened_file_names, IsOneLine}
use Rattle.cweb_lines.specs.surface.OpenSources.{IsReaderNamed, AreReadersNamed, BlamesFile, ReadsShelf, name_of_file}
use Rattle.cweb_lines.specs.surface.OpenSources.{StopsReading, files_named, Stop, WebNotOpened, ChangeNotOpened, Memory}
use Rattle.cweb_lines.specs.surface.MergeProgress.{MergeState, SoFar, EmitsLines, KeepsReported, NothingLeft, Stopped}
use Rattle.cweb_lines.specs.surface.MergeProgress.{ReportsPrefix, so_far_of, events_to_come, merge}
use Rattle.cweb_files.specs.Shelves.{ShelfContents, ShelfModel}
use Rattle.cweb_lines.specs.Lines.{Place, Line}
use Rattle.cweb_lines.specs.Include.{names_found, contents_found, World, Found}
use Rattle.cweb_lines.specs.Events.{Event, emitted_lines, LINES, BYTES}
use Rattle.cweb_lines.specs.Merge.{started}
use Rattle.cweb_lines.specs.declared.merger.Merger.{Merger}

-- Each reader, that of the change file included, was opened under the name of its file.
pub record AreReadersKnown {R : Type 0} (opened_as : R → List ℕ) (run : MergeState R) : Type 0 where
  pub texts : AreReadersNamed opened_as (opened_file_names run.names) run.stack.texts
  pub change : IsReaderNamed opened_as (opened_file_names run.names) run.change

-- All events to come, by the contents of the shelf and what the readers have left.
abbrev pub to_come : {S R : Type 0} → ShelfContents R → Merger S R → List Event
to_come seen merger = events_to_come seen.texts seen.left merger.run

abbrev pub lines_to_come : {S R : Type 0} → ShelfContents R → Merger S R → List Line
lines_to_come seen merger = emitted_lines (to_come seen merger)

abbrev pub so_far : {S R : Type 0} → Merger S R → SoFar
so_far merger = so_far_of merger.run

abbrev pub stop_in : {S R : Type 0} → Merger S R → Option Stop
stop_in merger = merger.run.stopped

-- Each reader was opened under the name of its file.
abbrev pub KnowsReaders : {S R : Type 0} → ShelfContents R → Merger S R → Type 0
KnowsReaders seen merger = AreReadersKnown seen.opened_as merger.run

-- Readers are still opened under the names of their files, and a failed read blames the name of its file.
pub record StaysKnown {S R A : Type 0} (seen : ShelfContents R) (before after : ShelfModel R) (old new : Merger S R)
    (result : Result A Stop) : Type 0 where
  pub readers : KnowsReaders seen new
  pub blamed : stop_in old ≡ None → BlamesFile (name_of_file (so_far new).names) before after result

abbrev pub HasEnded : {S R : Type 0} → Merger S R → Type 0
HasEnded merger = NothingLeft merger.run

-- The next line, with all events before it, or no line is left.
abbrev pub NextLine : Option Place → List ℕ → SoFar → SoFar → List Event → List Event → Type 0
NextLine None bytes old new all later = EmitsLines [] old new all later × (later ≡ [])
NextLine (Some place) bytes old new all later =
    EmitsLines (record { bytes = bytes; place = place } ∷ []) old new all later

-- What holds of an emitted line for any shelf.
pub record EmitsLine (place : Place) (bytes : List ℕ) (old new : SoFar) : Type 0 where
  -- its file was opened
  pub known : place.file.0 < length new.names
  pub line : IsOneLine bytes
  -- it was counted with its bytes
  pub lines : old.count.lines < new.count.lines
  pub bytes_are : old.count.bytes + length bytes ≤ new.count.bytes

-- Faults and names only grow, and the limits hold.
pub record Grows (old new : SoFar) : Type 0 where
  pub reported : KeepsReported old new
  pub lines : new.count.lines ≤ LINES
  pub bytes : new.count.bytes ≤ BYTES

-- The state after a call for the next line.
pub record LeavesMerger {S R : Type 0} (result : Result (Option Place) Stop) (bytes : List ℕ)
    (merger : Merger S R) : Type 0 where
  pub running : OnOk result (stop_in merger ≡ None)
  pub end : result ≡ Ok None → (bytes ≡ []) × HasEnded merger
  pub kept : IfErr result (λ stop. stop_in merger ≡ Some stop)
  pub empty : OnErr result (bytes ≡ [])
  -- a file number in a stop is that of an opened file
  pub named : IfErr result (λ stop. files_named stop ≤ length (so_far merger).names)

-- One read failed if the stop says so, else none did. The stop is one of taking lines.
pub record ReportsReadFailures {R : Type 0} (before after : ShelfModel R)
    (result : Result (Option Place) Stop) : Type 0 where
  pub reads : ReadsShelf before after result
  pub reading : IfErr result (λ stop. StopsReading stop)

-- Why there is no line. The reports so far are a prefix of all.
pub record StopsThere (stop : Stop) (old new : SoFar) (all : List Event) : Type 0 where
  pub why : Stopped stop old new all
  pub reported : ReportsPrefix old new all

-- The merge begins with the web that was found, and with the change file if one is named.
pub record BeginsMerge (world : World) (found : Option Found) (changes : Option (Option Found)) (first : SoFar)
    (all : List Event) : Type 0 where
  pub name : List ℕ
  pub text : List ℕ
  pub change : Option Found
  pub there : found ≡ Some (name, text)
  pub changes_there : changes ≡ Some change
  pub so_far_is : first ≡ record {
    faults = [];
    names = name ∷ names_found change;
    count =
        record { lines = 0; bytes = 0 };
  }
  pub whole : all ≡ merge world (started text (contents_found change))

-- Why a merge can't begin: there is no web, a named change file isn't there, or memory was refused.
abbrev pub StopsAtStart : Stop → Option Found → Option (Option Found) → Type 0
StopsAtStart WebNotOpened found changes = found ≡ None
StopsAtStart ChangeNotOpened found changes = ((web : Found) × (found ≡ Some web)) × (changes ≡ None)
StopsAtStart Memory found changes = Unit {0}
StopsAtStart _ found changes = ⊥
