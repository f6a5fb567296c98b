-- Texts for the log: their items, their bytes chunk by chunk, and the names that lines of stops end in.
use Rattle.std.specs.Prelude.{List, [], ◌∷◌, ◌++◌, codes, map, ℕ, decimal, ◌≡◌, Result, Ok, Err, Option, Some, None}
use Rattle.std.specs.Option.{option_map_or}
use Rattle.std.specs.List.{flat_map}
use Rattle.cweb_lines.specs.surface.OpenedFileNames.{opened_file_names}
use Rattle.cweb_tools.specs.Items.{LogItem, banner, closing, counts, cycle_step, fault, name_items, no_text, scan_item}
use Rattle.cweb_tools.specs.Items.{source_item, starred, stopped, writing, line, star, refusal_message, file_name_at}
use Rattle.cweb_tools.specs.declared.log_text.LogLine.{LogLine}
use Rattle.cweb_tools.specs.declared.log_text.LogLine.TheVariants.{Banner, Closing, Counts, NoProgramText, Refused}
use Rattle.cweb_tools.specs.declared.log_text.LogLine.TheVariants.{Stopped, Writing}
use Rattle.cweb_tools.specs.declared.log_text.LogText.{LogText}
use Rattle.cweb_tools.specs.declared.log_text.LogText.TheVariants.{Cycle, Line, NameFaults, ScanFaults, SourceFaults}
use Rattle.cweb_tools.specs.declared.log_text.LogText.TheVariants.{Starred}
use Rattle.cweb_tools.specs.declared.chunks.Part.{Part}
use Rattle.cweb_tools.specs.declared.chunks.Part.TheVariants.{Text, Number}
use Rattle.cweb_files.specs.Sinks.{FailsWithin, SinkModel, written}
use Rattle.cweb_store.specs.Calls.{Stored}
use Rattle.cweb_out.specs.Outputs.{Refusal, bad_name, same_name, cycle}
use Rattle.cweb_out.specs.declared.outputs.fault.PlanFault.{PlanFault}
use Rattle.cweb_lines.specs.declared.stop.Stop.{Stop}
use Rattle.cweb_lines.specs.declared.stop.Stop.TheVariants.{WebNotOpened, ChangeNotOpened, ReadFault, LineTooLong}
use Rattle.cweb_lines.specs.declared.stop.Stop.TheVariants.{WriteFault}
use Rattle.cweb_lines.specs.declared.stop.Stop.TheVariants as stop
use Rattle.cweb_out.specs.declared.outputs.fault.PlanFault.TheVariants as plan

-- A line of the log as an item.
abbrev pub item_of : LogLine → LogItem
item_of Banner = banner
item_of NoProgramText = no_text
item_of (Writing name) = writing name.now
item_of (Counts sections names macros) = counts sections names macros
item_of (Closing count missing) = closing count missing
item_of (Refused text name) = fault (text.now ++ (name.now ++ codes ">"))
item_of (Stopped stop name) = stopped stop name.now

abbrev pub items_of : LogText → List LogItem
items_of (Line one) = item_of one ∷ []
items_of (Starred numbers) = starred numbers.now ∷ []
items_of (Cycle store names) = fault (codes "Cycle:" ++ flat_map (cycle_step store.now) names.now) ∷ []
items_of (SourceFaults names faults) = map (source_item (opened_file_names names.now)) faults.now
items_of (ScanFaults names faults) = map (scan_item (opened_file_names names.now)) faults.now
items_of (NameFaults store) = name_items store.now

-- The bytes of a part of a chunk.
abbrev pub part_bytes : Part → List ℕ
part_bytes (Text text) = text.now
part_bytes (Number number) = decimal number

-- The bytes of a chunk.
abbrev pub joined_parts : List Part → List ℕ
joined_parts parts = flat_map part_bytes parts

-- The chunks that are written for a text, in order. Most are whole lines.
abbrev pub chunks_of : LogText → List (List ℕ)
chunks_of (Starred numbers) = map star numbers.now ++ codes "\n" ∷ []
chunks_of (Cycle store names) = codes "! Cycle:" ∷ (map (cycle_step store.now) names.now ++ codes "\n" ∷ [])
chunks_of text = map line (items_of text)

-- Of the pending bytes followed by `more`, these were written, and the others are pending.
pub record Buffers (more : List ℕ) (before after : SinkModel) (old new : List ℕ) : Type 0 where
  pub done : List ℕ
  pub whole : old ++ more ≡ done ++ new
  pub is : after ≡ written done before

-- `more` is appended: it is written or pending, or a write failed within the pending bytes and it.
abbrev pub AppendsToLog : {A E : Type 0} → List ℕ → SinkModel → SinkModel → List ℕ → List ℕ → Result A E → Type 0
AppendsToLog more before after old new (Ok x) = Buffers more before after old new
AppendsToLog more before after old new (Err e) = FailsWithin (old ++ more) before after

-- The refusal of a plan's fault, if the fault isn't a failed allocation.
abbrev pub refusal_in : PlanFault → Option Refusal
refusal_in (plan.Cycle names) = Some (cycle names.items)
refusal_in (plan.SameName name) = Some (same_name name)
refusal_in (plan.BadName output) = Some (bad_name output)
refusal_in plan.Memory = None

-- A fault of the plan, or a failed allocation, which stops the run.
abbrev pub plan_item : Stored → List ℕ → PlanFault → LogItem
plan_item web main f =
    option_map_or (λ refusal. fault (refusal_message web main refusal)) (refusal_in f) (stopped stop.Memory [])

-- For a stop at the start of a merge, from the names of the web and of the change file.
abbrev pub start_subject : List ℕ → List ℕ → Stop → List ℕ
start_subject web change WebNotOpened = web
start_subject web change ChangeNotOpened = change
start_subject web change _ = []

-- For a stop within a merge, from the names of the opened files.
abbrev pub subject : List (List ℕ) → Stop → List ℕ
subject names (ReadFault file) = file_name_at names file.0
subject names (LineTooLong file) = file_name_at names file.0
subject names WriteFault = codes "standard output"
subject names _ = []
