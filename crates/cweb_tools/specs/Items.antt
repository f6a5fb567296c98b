-- The log: the messages of faults and stops, its items, and the line of each.
use Rattle.std.specs.Prelude.{ℕ, Bool, true, false, List, ◌++◌, ◌==◌, codes, decimal, if◌then◌else◌, [], map}
use Rattle.std.specs.Prelude.{slice_index_or}
use Rattle.std.specs.List.{flat_map}
use Rattle.cweb_lines.specs.declared.fault.SourceFault.{SourceFault}
use Rattle.cweb_lines.specs.declared.fault.SourceKind.{SourceKind}
use Rattle.cweb_lines.specs.declared.fault.SourceKind.TheVariants.{Unequal, NoName, TooDeep, NotThere, MissingX}
use Rattle.cweb_lines.specs.declared.fault.SourceKind.TheVariants.{NoOldLines, EndedBeforeY, WebEnded, WantsY, WantsZ}
use Rattle.cweb_lines.specs.declared.fault.SourceKind.TheVariants.{EndedBeforeZ, NoMatch}
use Rattle.cweb_lines.specs.declared.stop.Stop.{Stop}
use Rattle.cweb_store.specs.Names.{Occurrence}
use Rattle.cweb_store.specs.declared.name.NameId.{NameId}
use Rattle.cweb_store.specs.declared.name.NameKind.TheVariants.{Ambiguous, NeverFull, PrefixOfAnother, NotPresent}
use Rattle.cweb_store.specs.Calls.{Stored}
use Rattle.cweb_store.specs.Faults as store
use Rattle.cweb_store.specs.declared.name.NameFault.{NameFault}
use Rattle.cweb_store.specs.declared.name.NameKind.{NameKind}
use Rattle.cweb_rules.specs.declared.fault.ScanFault.{ScanFault}
use Rattle.cweb_rules.specs.declared.fault.ScanKind.{ScanKind}
use Rattle.cweb_rules.specs.declared.fault.ScanKind.TheVariants.{DoubleAtInLimbo, ImproperHexNumber, ReplacementTooLong}
use Rattle.cweb_rules.specs.declared.fault.ScanKind.TheVariants.{LetterOutsideLimbo, NameDidNotEnd, NamesDoNotNest}
use Rattle.cweb_rules.specs.declared.fault.ScanKind.TheVariants.{CommentDidNotEnd, StringDidNotEnd, DoubleAtInString}
use Rattle.cweb_rules.specs.declared.fault.ScanKind.TheVariants.{ControlTextDidNotEnd, FaultyConstant, IgnoredInCText}
use Rattle.cweb_rules.specs.declared.fault.ScanKind.TheVariants.{MissingAt, DefsInMacro, DefinitionDropped}
use Rattle.cweb_out.specs.Outputs as outputs
use Rattle.cweb_out.specs.Outputs.{Refusal, bad_name, same_name, cycle, output_name}
use Rattle.cweb_lines.specs.declared.stop.Stop.TheVariants.{ChangeNotOpened, WebNotOpened, OutNotOpened, LineTooLong}
use Rattle.cweb_lines.specs.declared.stop.Stop.TheVariants.{TooMuchText, WriteFault, ReadFault, LogFault, Memory, Usage}

-- The name of a file by its index.
abbrev pub file_name_at : List (List ℕ) → ℕ → List ℕ
file_name_at names file = slice_index_or names file []

-- The message of a fault of a web or change file.
abbrev pub kind_message : SourceKind → List ℕ
kind_message NoName = codes "Include file name not given"
kind_message TooDeep = codes "Too many nested includes"
kind_message NotThere = codes "Cannot open include file"
kind_message MissingX = codes "Missing @x in change file"
kind_message NoOldLines = codes "No old lines after @x"
kind_message EndedBeforeY = codes "Change file ended before @y"
kind_message WebEnded = codes "Web ended during a change"
kind_message WantsY = codes "Where is @y?"
kind_message Unequal = codes "Lines that failed to match"
kind_message WantsZ = codes "Where is @z?"
kind_message EndedBeforeZ = codes "Change file ended before @z"
kind_message NoMatch = codes "Change entry did not match"

-- FILE:LINE: ! TEXT
abbrev pub located_line : List ℕ → List ℕ → List ℕ → List ℕ
located_line file line text = file ++ (codes ":" ++ (line ++ (codes ": ! " ++ text)))

-- ! MESSAGE, followed by a name if the message is about one.
abbrev pub message_line : List ℕ → List ℕ → List ℕ
message_line text name = codes "! " ++ (text ++ (name ++ codes "\n"))

-- The line of a stop that is about this name. A log that failed gets no line.
abbrev pub stop_line : Stop → List ℕ → List ℕ
stop_line Usage name = message_line (codes "Usage: ") name
stop_line WebNotOpened name = message_line (codes "Cannot open web file ") name
stop_line ChangeNotOpened name = message_line (codes "Cannot open change file ") name
stop_line (ReadFault file) name = message_line (codes "Read fault on ") name
stop_line (LineTooLong file) name = message_line (codes "Line too long in ") name
stop_line TooMuchText name = message_line (codes "Too much text") []
stop_line Memory name = message_line (codes "Out of memory") []
stop_line OutNotOpened name = message_line (codes "Cannot open output file ") name
stop_line WriteFault name = message_line (codes "Write fault on ") name
stop_line LogFault name = []

-- An item of the log.
pub data LogItem : Type 0 where
  banner : LogItem
  -- The numbers of the starred sections.
  starred : List ℕ → LogItem
  -- A fault at a line of a file: the file's name, the line number and the message.
  located : List ℕ → ℕ → List ℕ → LogItem
  -- A fault without a place.
  fault : List ℕ → LogItem
  no_text : LogItem
  -- An output is begun.
  writing : List ℕ → LogItem
  -- The numbers of sections, names and macros.
  counts : ℕ → ℕ → ℕ → LogItem
  no_errors : LogItem
  see_warning : LogItem
  -- The number of faults.
  faults : ℕ → LogItem
  -- What stopped the run, and the name that ends the line.
  stopped : Stop → List ℕ → LogItem

-- A star and the number of a section.
abbrev pub star : ℕ → List ℕ
star number = codes "*" ++ decimal number

-- The line of an item.
abbrev pub line : LogItem → List ℕ
line banner = codes "This is CTANGLE, profile of CWEB 3\n"
line (starred numbers) = flat_map star numbers ++ codes "\n"
line (located file number text) = located_line file (decimal number) (text ++ codes "\n")
line (fault text) = codes "! " ++ (text ++ codes "\n")
line no_text = codes "! No program text\n"
line (writing name) = codes "Writing " ++ (name ++ codes "\n")
line (counts sections names macros) =
    codes "Sections: " ++
    (decimal sections ++
    (codes ". Names: " ++ (decimal names ++ (codes ". Macros: " ++ (decimal macros ++ codes ".\n")))))
line no_errors = codes "(No errors were found.)\n"
line see_warning = codes "(Did you see the warning?)\n"
line (faults count) = codes "(Faults: " ++ (decimal count ++ codes ".)\n")
line (stopped stop about) = stop_line stop about

-- Faults and stops make the status 1. Missing program text is a warning.
abbrev pub is_fault : LogItem → Bool
is_fault (located file number text) = true
is_fault (fault text) = true
is_fault (stopped stop about) = true
is_fault _ = false

-- Only the message on unequal lines has a count.
abbrev pub message_with_count : SourceKind → ℕ → List ℕ
message_with_count Unequal count = kind_message Unequal ++ (codes ": " ++ decimal count)
message_with_count kind count = kind_message kind

-- A fault of a web or a change file, with the names of the opened files.
abbrev pub source_item : List (List ℕ) → SourceFault → LogItem
source_item names met =
    located (file_name_at names met.place.file.0) met.place.line (message_with_count met.kind met.count)

-- The closing line, from the number of faults and whether program text is missing.
abbrev pub closing : ℕ → Bool → LogItem
closing count missing = if count == 0 then (if missing then see_warning else no_errors) else faults count

-- The message of a scan fault.
abbrev pub scan_message : ScanKind → List ℕ
scan_message DoubleAtInLimbo = codes "Double @ in limbo"
scan_message ImproperHexNumber = codes "Improper hex number after @l"
scan_message ReplacementTooLong = codes "Replacement after @l too long"
scan_message LetterOutsideLimbo = codes "Use @l in limbo only"
scan_message NameDidNotEnd = codes "Section name did not end"
scan_message NamesDoNotNest = codes "Section names do not nest"
scan_message CommentDidNotEnd = codes "Comment did not end"
scan_message StringDidNotEnd = codes "String did not end"
scan_message DoubleAtInString = codes "Double @ in strings"
scan_message ControlTextDidNotEnd = codes "Control text did not end"
scan_message FaultyConstant = codes "Faulty ASCII constant"
scan_message IgnoredInCText = codes "@d, @f, @s, @c and @p are ignored in C text"
scan_message MissingAt = codes "Missing @ before a named section"
scan_message DefsInMacro = codes "@h is ignored in a macro"
scan_message DefinitionDropped = codes "Definition dropped, no identifier"

-- A scan fault, with the names of the opened files.
abbrev pub scan_item : List (List ℕ) → ScanFault → LogItem
scan_item files met = located (file_name_at files met.place.file.0) met.place.line (scan_message met.kind)

-- A name is printed between angle brackets, an abbreviation with its three dots.
abbrev pub name_message : NameKind → List ℕ → List ℕ
name_message Ambiguous prefix = codes "Ambiguous prefix: <" ++ (prefix ++ codes "...>")
name_message NeverFull prefix = codes "Never given in full: <" ++ (prefix ++ codes "...>")
name_message PrefixOfAnother name = codes "Name is a prefix of another: <" ++ (name ++ codes ">")
name_message NotPresent name = codes "Not present: <" ++ (name ++ codes ">")

-- A fault of a name.
abbrev pub name_item : List Occurrence → NameFault → LogItem
name_item occurrences met =
    fault (name_message met.kind (slice_index_or (map (λ o. o.text) occurrences) met.occurrence.0 []))

-- The faults of a web's names, in order.
abbrev pub name_items : Stored → List LogItem
name_items web = map (name_item web.occurrences) (store.faults web.occurrences web.parts)

-- A name of a cycle, after the one that uses it.
abbrev pub cycle_step : Stored → NameId → List ℕ
cycle_step web name = codes " <" ++ (outputs.name_spelling web name ++ codes ">")

-- Why nothing is written, for a main output of this name.
abbrev pub refusal_message : Stored → List ℕ → Refusal → List ℕ
refusal_message web main (cycle names) = codes "Cycle:" ++ flat_map (cycle_step web) names
refusal_message web main (same_name name) =
    codes "Two outputs with one name: <" ++ (outputs.name_spelling web name ++ codes ">")
refusal_message web main (bad_name output) = codes "Bad output name: <" ++ (output_name web main output ++ codes ">")
