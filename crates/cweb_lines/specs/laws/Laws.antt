-- What holds of every merge, in the words of an author of webs: the outcome of a merge, and laws on it.
use Rattle.std.specs.Prelude.{ℕ, ◌+◌, true, List, [], ◌∷◌, ◌++◌, map, Option, None, ◌≡◌, ◌≢◌, ◌<◌, ◌≤◌, Bool, false}
use Rattle.std.specs.Prelude.{length, Some, zero, suc}
use Rattle.cweb_lines.specs.Lines.{Place, Line, SourceLine, cut_lines, raws, trimmed, lines_in}
use Rattle.cweb_lines.specs.Include.{World, found_at, include_name, is_include_line}
use Rattle.cweb_lines.specs.Change.{at_place, change_code}
use Rattle.cweb_lines.specs.Events.{Event, emitted_lines, reported_faults, openings, SourceFault, OPEN_FILES}
use Rattle.cweb_lines.specs.Merge.{started, MergeStateModel, Yields}
use Rattle.cweb_lines.specs.surface.MergeProgress.{merge}
use Rattle.cweb_lines.specs.declared.fault.SourceKind.{SourceKind}
use Rattle.std.specs.List.{list_any}
use Rattle.std.specs.Option.{is_some}
use Rattle.std.specs.Str.{bytes_eq}
use Rattle.cweb_lines.specs.declared.change.code.Code.TheVariants.{OldSide as old_side, NewSide as new_side}
use Rattle.cweb_lines.specs.declared.change.code.Code.TheVariants.{EndSide as end_side}
use Rattle.cweb_lines.specs.declared.fault.SourceKind.TheVariants.{NoMatch, NoName, NotThere, TooDeep}

-- The trimmed lines of a file. A last line without newline that has only blanks is an empty line.
abbrev pub lines : List ℕ → List (List ℕ)
lines text = map (λ line. trimmed line.bytes) (cut_lines text)

-- The lines with their places, the faults, and the names of included files.
pub record MergeOutcome : Type 0 where
  pub lines : List Line
  pub faults : List SourceFault
  pub included : List (List ℕ)

abbrev pub outcome_of_events : List Event → MergeOutcome
outcome_of_events events = record {
  lines = emitted_lines events;
  faults = reported_faults events;
  included = openings events;
}

-- The outcome for a web and a change file, if there is one.
abbrev pub merge_outcome : World → List ℕ → Option (List ℕ) → MergeOutcome
merge_outcome world web change = outcome_of_events (merge world (started web change))

abbrev pub placed_line : ℕ → ℕ → List ℕ → Line
placed_line file number bytes = record { bytes = bytes; place = record { file = record { 0 = file }; line = number } }

-- Lines of a file with their places, from this number on.
abbrev pub placed : ℕ → ℕ → List (List ℕ) → List Line
placed file number [] = []
placed file number (bytes ∷ rest) = placed_line file number bytes ∷ placed file (number + 1) rest

abbrev pub only_lines : List Line → MergeOutcome
only_lines lines = record { lines = lines; faults = []; included = [] }

abbrev pub followed_by : MergeOutcome → MergeOutcome → MergeOutcome
followed_by first later = record {
  lines = first.lines ++ later.lines;
  faults = first.faults ++ later.faults;
  included = first.included ++ later.included;
}

abbrev pub only_name : List ℕ → MergeOutcome
only_name name = record { lines = []; faults = []; included = name ∷ [] }

abbrev pub only_fault : SourceKind → Place → MergeOutcome
only_fault kind place = record { lines = []; faults = at_place kind place ∷ []; included = [] }

-- The outcome with other file numbers.
abbrev pub place_renumbered : (ℕ → ℕ) → Place → Place
place_renumbered number place = record { file = record { 0 = number place.file.0 }; line = place.line }

abbrev pub line_renumbered : (ℕ → ℕ) → Line → Line
line_renumbered number line = record { bytes = line.bytes; place = place_renumbered number line.place }

abbrev pub fault_renumbered : (ℕ → ℕ) → SourceFault → SourceFault
fault_renumbered number fault = record {
  kind = fault.kind;
  place = place_renumbered number fault.place;
  count = fault.count;
}

abbrev pub renumbered : (ℕ → ℕ) → MergeOutcome → MergeOutcome
renumbered number all = record {
  lines = map (line_renumbered number) all.lines;
  faults = map (fault_renumbered number) all.faults;
  included = all.included;
}

-- The outcome for lines at a depth, with no change to come and this number of opened files.
abbrev pub outcome_of_lines : World → ℕ → ℕ → List SourceLine → MergeOutcome
outcome_of_lines world depth files lines =
    outcome_of_events (merge world (record {
      things = raws depth true lines;
      pending = None;
      change = [];
      files =
          files;
    }))

-- Some number of steps yields these events, and each other number that is enough yields the same.
pub record IsTheAnswer (world : World) (s : MergeStateModel) (events : List Event) : Type 0 where
  pub yields : Yields world s events
  pub only : (others : List Event) → Yields world s others → others ≡ events

-- The one answer of a merge is `merge`, which the contracts cite.
abbrev pub HasOneAnswer : Type 0
HasOneAnswer = (world : World) (s : MergeStateModel) → IsTheAnswer world s (merge world s)

-- A web without include lines and change file merges to its own lines, in order, numbered and without a fault.
abbrev pub WebsWithoutIncludesAreTheirOwnLines : Type 0
WebsWithoutIncludesAreTheirOwnLines = (world : World) (web : List ℕ)
    → list_any is_include_line (lines web) ≡ false
    → merge_outcome world web None ≡ only_lines (placed 0 1 (lines web))

-- The line begins with @x, @y or @z.
abbrev pub is_change_code : List ℕ → Bool
is_change_code line = is_some (change_code line)

-- The number of a file if there is a change file. That is file 1, so each included file has the next higher number.
abbrev pub file_with_change : ℕ → ℕ
file_with_change zero = zero
file_with_change (suc file) = suc (suc file)

-- A change file without entries changes nothing but the numbers of files.
abbrev pub ChangeFilesWithoutEntriesChangeNothing : Type 0
ChangeFilesWithoutEntriesChangeNothing = (world : World) (web change : List ℕ)
    → list_any is_change_code (lines change) ≡ false
    → merge_outcome world web (Some change) ≡ renumbered file_with_change (merge_outcome world web None)

-- The lines of a change file with one entry: @x, the old lines, @y, the new lines and @z.
pub record HasOneEntry (change old new : List (List ℕ)) : Type 0 where
  pub x : List ℕ
  pub y : List ℕ
  pub z : List ℕ
  pub whole : change ≡ x ∷ old ++ y ∷ new ++ z ∷ []
  pub begins : change_code x ≡ Some old_side
  pub turns : change_code y ≡ Some new_side
  pub ends : change_code z ≡ Some end_side
  pub others : list_any is_change_code (old ++ new) ≡ false

-- A change file has one entry, whose old lines are in the web, and its first old line isn't empty and not before them.
-- Then the new lines stand in their place, each line has the place of its own file, and there is no fault. Only old
-- lines may be include lines here, which then open no file.
abbrev pub ChangesReplaceLines : Type 0
ChangesReplaceLines = (world : World) (web change first : List ℕ) (before old after new : List (List ℕ))
    → lines web ≡ before ++ first ∷ old ++ after → HasOneEntry (lines change) (first ∷ old) new
    → first ≢ [] → list_any (λ line. bytes_eq line first) before ≡ false
    → list_any is_include_line (before ++ new ++ after) ≡ false
    → merge_outcome world web (Some change) ≡ only_lines
    (placed 0 1 before ++ placed 1 (4 + length old) new ++ placed 0 (2 + length before + length old) after)

-- Without a change file each line is independent: lines merge as a prefix of them does, followed by the rest. A line
-- that includes no file is emitted or a fault.
pub record LinesComeApart : Type 0 where
  -- a web's own lines are at depth 1, after one opened file
  pub whole : (world : World) (web : List ℕ)
      → merge_outcome world web None ≡ outcome_of_lines world 1 1 (lines_in 0 web)
  pub apart : (world : World) (depth files : ℕ) (before after : List SourceLine) →
      let first = outcome_of_lines world depth files before in
      let rest = outcome_of_lines world depth (files + length first.included) after in
      outcome_of_lines world depth files (before ++ after) ≡ followed_by first rest
  pub plain : (world : World) (depth files : ℕ) (line : SourceLine) → is_include_line line.line.bytes ≡ false
      → outcome_of_lines world depth files (line ∷ []) ≡ only_lines (line.line ∷ [])
  pub no_name : (world : World) (depth files : ℕ) (line : SourceLine) → is_include_line line.line.bytes ≡ true
      → include_name line.line.bytes ≡ []
      → outcome_of_lines world depth files (line ∷ []) ≡ only_fault NoName line.line.place
  pub too_deep : (world : World) (depth files : ℕ) (line : SourceLine) → is_include_line line.line.bytes ≡ true
      → include_name line.line.bytes ≢ [] → OPEN_FILES ≤ depth
      → outcome_of_lines world depth files (line ∷ []) ≡ only_fault TooDeep line.line.place
  pub not_there : (world : World) (depth files : ℕ) (line : SourceLine) → is_include_line line.line.bytes ≡ true
      → include_name line.line.bytes ≢ [] → depth < OPEN_FILES → found_at world (include_name line.line.bytes) ≡ None
      → outcome_of_lines world depth files (line ∷ []) ≡ only_fault NotThere line.line.place

-- The line includes a file, which was found under a name.
pub record Includes (world : World) (bytes name text : List ℕ) : Type 0 where
  pub include : is_include_line bytes ≡ true
  pub named : include_name bytes ≢ []
  pub found : found_at world (include_name bytes) ≡ Some (name, text)

-- The lines before an include line, then its file with its name, then the lines after it.
abbrev pub with_included : World → ℕ → ℕ → List SourceLine → List ℕ → List ℕ → List SourceLine → MergeOutcome
with_included world depth files before name text after =
    let first = outcome_of_lines world depth files before in
    let file = files + length first.included in
    let inside = outcome_of_lines world (depth + 1) (file + 1) (lines_in file text) in
    let last = outcome_of_lines world depth (file + 1 + length inside.included) after in
    followed_by first (followed_by (only_name name) (followed_by inside last))

-- Without a change file, an include line is replaced by the merged lines of its file, one deeper.
abbrev pub IncludeLinesAreReplaced : Type 0
IncludeLinesAreReplaced = (world : World) (depth files : ℕ) (before after : List SourceLine)
    (line : SourceLine) (name text : List ℕ)
    → Includes world line.line.bytes name text → depth < OPEN_FILES
    → outcome_of_lines world depth files (before ++ line ∷ after)
    ≡ with_included world depth files before name text after

-- A first entry that matches no line of a web without include lines is reported once, at its @x, and changes nothing.
abbrev pub UnmatchedEntriesAreReported : Type 0
UnmatchedEntriesAreReported = (world : World) (web change : List ℕ)
    (comment : List (List ℕ)) (begin first : List ℕ) (rest : List (List ℕ))
    → lines change ≡ comment ++ (begin ∷ first ∷ rest)
    → list_any is_change_code comment ≡ false → change_code begin ≡ Some old_side → change_code first ≡ None
    → first ≢ []
    → list_any is_include_line (lines web) ≡ false → list_any (λ line. bytes_eq line first) (lines web) ≡ false
    → merge_outcome world web (Some change) ≡ record {
      lines = placed 0 1 (lines web);
      faults = at_place NoMatch (record { file = record { 0 = 1 }; line = 1 + length comment }) ∷ [];
      included = [];
    }
