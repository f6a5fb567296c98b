-- What a source has left, and what calls that take lines promise.
use Rattle.std.specs.Prelude.{◌≡◌, ℕ, ◌<◌, List, [], ◌∷◌, ◌++◌, length, Bool, true, false, Result, Err, IsErrOf, ◌≢◌}
use Rattle.std.specs.Prelude.{◌+◌, ◌≤◌, Option, None, Some, Ok, IfOk, IfErr, IfSome, OnSome, OnErr, ◌-◌, slice_set}
use Rattle.cweb_files.specs.Shelves.{Observed, ShelfModel, failed_read}
use Rattle.cweb_lines.specs.surface.OpenedFileNames.{HasNoNewline, IsOneLine}
use Rattle.cweb_lines.specs.declared.limits.TheConstants.{LINE_LENGTH}
use Rattle.cweb_lines.specs.declared.source.Source.{Source}
use Rattle.cweb_lines.specs.declared.source.LineFault.{LineFault}
use Rattle.cweb_lines.specs.declared.source.LineFault.TheVariants.{Read, TooLong}
use Rattle.cweb_lines.specs.declared.source.LineTermination.{LineTermination}
use Rattle.cweb_lines.specs.declared.source.LineTermination.TheVariants.{Ended, Last, Full}
use Rattle.cweb_lines.specs.surface.OpenSources.{buffered, IsReaderNamed, AreReadersNamed, BlamesFile, name_of_file}
use Rattle.cweb_lines.specs.surface.OpenSources.{StopsFor, StopsReading, matches_at, number_or_zero, lines_at}
use Rattle.cweb_lines.specs.surface.OpenSources.{source_depth, ReadsShelf, counters_of, Stop, OpenSource, Stack}
use Rattle.cweb_lines.specs.Lines.{trimmed}
use Rattle.cweb_lines.specs.inner.OpenSources.{newline_bytes, AreDeep, Counted, DepthAfter, NamesFiles, StaysBelow}
use Rattle.cweb_lines.specs.inner.OpenSources.{files_up_to, line_number, maximum_of, line_number_at, FirstStops}
use Rattle.cweb_lines.specs.inner.OpenSources.{NeedsRead, TakesNextLine}
use Rattle.cweb_lines.specs.OpenSources.{TakenCountersModel}
use Rattle.cweb_lines.specs.declared.counters.TakenCounters.{TakenCounters}
use Rattle.cweb_lines.specs.declared.open_source.LineAt.{LineAt}

-- The bytes that a source has left: those in its buffer, then those of its reader.
abbrev pub bytes_left : {R : Type 0} → (R → List ℕ) → Source R → List ℕ
bytes_left left source = buffered source ++ left source.reader.value

-- A raw line is taken from what is left.
abbrev pub TakesRawLine : List ℕ → LineTermination → List ℕ → List ℕ → Type 0
TakesRawLine old Ended line new = (old ≡ []) × (line ≡ []) × (new ≡ [])
TakesRawLine old Last line new = (old ≡ line) × HasNoNewline line × (0 < length line) × (new ≡ [])
TakesRawLine old Full line new = (old ≡ line ++ 10 ∷ new) × HasNoNewline line

-- The next line is longer than the limit.
abbrev pub IsLongerThan : ℕ → List ℕ → Type 0
IsLongerThan limit text = (prefix : List ℕ) × (rest : List ℕ) × (text ≡ prefix ++ rest) × HasNoNewline prefix
    × (limit < length prefix)

-- A line takes the buffered bytes up to a newline, or all of them.
abbrev pub TakesFromBuffer : List ℕ → List ℕ → Bool → List ℕ → List ℕ → Type 0
TakesFromBuffer old line true longer new = (prefix : List ℕ) × HasNoNewline prefix × (old ≡ prefix ++ 10 ∷ new)
    × (longer ≡ line ++ prefix)
TakesFromBuffer old line false longer new = HasNoNewline old × (longer ≡ line ++ old) × (new ≡ [])

-- A shelf after the reader was read: a fault of reading is counted and blames it.
abbrev pub after_reading : {R A : Type 0} → R → Result A LineFault → ShelfModel R → ShelfModel R
after_reading reader (Err Read) shelf = failed_read reader shelf
after_reading reader _ shelf = shelf

-- Only the reader of this source is read. It keeps its name. A failed read is counted and blames it.
pub record ReadsSource {R A : Type 0} (old new : ShelfModel R) (source source' : Source R)
    (result : Result A LineFault) : Type 0 where
  pub shelf : new ≡ after_reading source.reader.value result old
  pub opened : Observed old (λ seen. seen.opened_as source'.reader.value ≡ seen.opened_as source.reader.value)

-- Why there is no line: a read failed, which no whole line in the buffer needed, or the next line exceeds the limit.
pub record FailsInLine {R A : Type 0} (shelf : ShelfModel R) (source : Source R)
    (result : Result A LineFault) : Type 0 where
  pub needed : IsErrOf result Read → HasNoNewline (buffered source)
  pub too_long : Observed shelf (λ seen. IsErrOf result TooLong
      → IsLongerThan LINE_LENGTH (bytes_left seen.left source))

-- A line is taken. `size` includes the newline, if it has one.
pub record TakesTrimmedLine (old bytes : List ℕ) (size : ℕ) (new : List ℕ) : Type 0 where
  pub taken : LineTermination
  pub raw : List ℕ
  pub some : taken ≢ Ended
  pub takes : TakesRawLine old taken raw new
  pub short : length raw ≤ LINE_LENGTH
  pub bytes_are : bytes ≡ trimmed raw
  pub size_is : size ≡ length raw + newline_bytes taken

abbrev pub TakesTrimmedOrEnds : List ℕ → Option ℕ → List ℕ → List ℕ → Type 0
TakesTrimmedOrEnds old None bytes new = (old ≡ []) × (new ≡ [])
TakesTrimmedOrEnds old (Some size) bytes new = TakesTrimmedLine old bytes size new

-- The reader of a source is still opened under the name of its file, which a read fault blames.
abbrev pub KeepsReaderName : {R A : Type 0} → ShelfModel R → ShelfModel R → Option (OpenSource R)
    → Option (OpenSource R) → Result A Stop → Type 0
KeepsReaderName old new slot slot' result = Observed old (λ seen. (names : List (List ℕ))
    → IsReaderNamed seen.opened_as names slot
    → IsReaderNamed seen.opened_as names slot' × BlamesFile (name_of_file names) old new result)

abbrev pub KeepsReaderNames : {R A : Type 0} → ShelfModel R → ShelfModel R → List (Option (OpenSource R))
    → List (Option (OpenSource R)) → Result A Stop → Type 0
KeepsReaderNames old new texts texts' result = Observed old (λ seen. (names : List (List ℕ))
    → AreReadersNamed seen.opened_as names texts
    → AreReadersNamed seen.opened_as names texts' × BlamesFile (name_of_file names) old new result)

-- The result is one counted line of an opened file, or a stop of reading that names one.
pub record AnswersLine (files : ℕ) (before after : TakenCountersModel) (bytes : List ℕ)
    (result : Result (Option LineAt) Stop) : Type 0 where
  pub counted : Counted before after result
  pub line : IfOk result (λ at. OnSome at (IsOneLine bytes))
  pub gains : IfOk result (λ at. OnSome at (before.bytes + length bytes ≤ after.bytes))
  pub known : NamesFiles files result
  pub reading : IfErr result (λ stop. StopsReading stop)

-- The source stays the same file at the same depth, and its next line is numbered on.
pub record KeepsOpenSource {R : Type 0} (old new : Option (OpenSource R)) (before after : TakenCountersModel)
    (result : Result (Option LineAt) Stop) : Type 0 where
  pub number : number_or_zero line_number new ≤ after.lines
  -- A line that could not be taken has no number.
  pub uncounted : OnErr result (number_or_zero line_number new ≡ number_or_zero line_number old)
  pub more : before.lines ≤ after.lines
  pub file : number_or_zero files_up_to new ≡ number_or_zero files_up_to old
  pub depth : number_or_zero source_depth new ≡ number_or_zero source_depth old
  pub may_match : matches_at new ≡ matches_at old
  pub level : IfOk result (λ at. IfSome at (λ a. (a.depth ≡ number_or_zero source_depth old)
      × (a.may_match ≡ matches_at old)))

-- The stack stays in order: line numbers within the count, no further file, each source deeper than its index.
pub record KeepsStack {R : Type 0} (old new : Stack R) (after : TakenCountersModel) : Type 0 where
  pub numbers : maximum_of line_number new.texts ≤ after.lines
  pub files : maximum_of files_up_to new.texts ≤ maximum_of files_up_to old.texts
  pub deep : AreDeep new.texts

-- No line of the open sources was taken, so their line numbers are unchanged.
abbrev pub KeepsNumbers : {R : Type 0} → Stack R → Stack R → Type 0
KeepsNumbers old new = (place : ℕ) → place < new.depth → line_number_at place new.texts ≡ line_number_at place old.texts

abbrev pub UnlessTaken : Result (Option LineAt) Stop → Type 0 → Type 0
UnlessTaken (Ok (Some at)) Says = Unit {0}
UnlessTaken result Says = Says

-- The deepest source is closed if it has no line. Otherwise the line is its next one.
pub record ClosesTop {R : Type 0} (old new : Stack R) (result : Result (Option LineAt) Stop) : Type 0 where
  pub depth : DepthAfter old.depth new.depth result
  pub closed : result ≡ Ok None → new.texts ≡ slice_set old.texts (old.depth - 1) None
  pub below : (low : ℕ) → low < old.depth → StaysBelow low old.texts new.texts
  pub numbers : UnlessTaken result (KeepsNumbers old new)
  pub deeper : IfOk result (λ at. IfSome at (λ a. new.depth ≤ a.depth))

-- Only sources from an index on are closed: all of them if none has a line.
pub record ClosesAbove {R : Type 0} (place : ℕ) (old new : Stack R)
    (result : Result (Option LineAt) Stop) : Type 0 where
  pub low : place ≤ new.depth
  pub shallow : new.depth ≤ old.depth
  pub ended : result ≡ Ok None → new.depth ≡ place
  pub below : StaysBelow place old.texts new.texts
  pub numbers : UnlessTaken result (KeepsNumbers old new)
  pub deeper : IfOk result (λ at. IfSome at (λ a. new.depth ≤ a.depth))

-- The next line of a slot's source is taken.
pub record TakesFromSlot {R : Type 0} (old new : ShelfModel R) (slot slot' : Option (OpenSource R))
    (before after : TakenCounters) (bytes : List ℕ) (result : Result (Option LineAt) Stop) : Type 0 where
  pub reads : ReadsShelf old new result
  -- it is the first of those that are left, if there is one
  pub taken : Observed old (λ seen. IfOk result (λ at. TakesNextLine (lines_at seen.left slot) at bytes
      (lines_at seen.left slot') (counters_of before) (counters_of after)))
  -- a limit that it breaks causes a stop
  pub stops : Observed old (λ seen. IfErr result (λ stop. StopsFor
      (FirstStops stop (counters_of before) (lines_at seen.left slot)) stop))
  -- a read fails only if it was needed
  pub needed : IfErr result (λ stop. NeedsRead slot stop)
  pub named : KeepsReaderName old new slot slot' result
  pub text : KeepsOpenSource slot slot' (counters_of before) (counters_of after) result
  pub answers : AnswersLine (number_or_zero files_up_to slot) (counters_of before) (counters_of after) bytes result

-- A line of an open source is taken, whichever it is. The stack stays in order, and readers keep their names.
pub record TakesFromStack {R : Type 0} (old new : ShelfModel R) (stack stack' : Stack R)
    (before after : TakenCounters) (bytes : List ℕ) (result : Result (Option LineAt) Stop) : Type 0 where
  pub reads : ReadsShelf old new result
  pub named : KeepsReaderNames old new stack.texts stack'.texts result
  pub order : KeepsStack stack stack' (counters_of after)
  pub answers : AnswersLine (maximum_of files_up_to stack.texts) (counters_of before) (counters_of after) bytes result
