-- Definitions that only proofs cite.
use Rattle.std.specs.Prelude.{◌≡◌, ◌++◌, ℕ, List, Option}
use Rattle.cweb_tools.specs.CommandLine.{web_names_by}
use Rattle.cweb_tools.specs.MergeActs.{Course, world_of}
use Rattle.cweb_tools.specs.inner.Does.{merge_course}
use Rattle.cweb_files.specs.Sinks.{SinkModel, written}
use Rattle.cweb_store.specs.Parts.{Token}
use Rattle.cweb_out.specs.surface.Printed.{left_after_tokens, left_in_printer, setting_of}
use Rattle.cweb_out.specs.Printing.{setting, print}
use Rattle.cweb_out.specs.declared.expander.Expander.{Expander}
use Rattle.cweb_out.specs.declared.printer.Printer.{Printer}
use Rattle.cweb_tools.specs.inner.Tangle.{StaysReady, left_in, status_by, fault_count, LaterActs}
use Rattle.cweb_tools.specs.Script.{web_acts}
use Rattle.cweb_tools.specs.declared.options.Shown.{Shown}
use Rattle.cweb_tools.specs.Script as script

abbrev pub course_of : (List ℕ → Option (List ℕ)) → List (List ℕ) → Option (List ℕ) → Course
course_of texts words inputs = merge_course (world_of texts inputs) (web_names_by words)

-- Some of the remaining tokens are printed. The sink has a prefix of their bytes, and the buffer the rest.
pub record PrintsSoFar (files : List (List ℕ)) (first now : Expander) (printer : Printer) (old new : SinkModel)
    (buffer : List ℕ) : Type 0 where
  pub ready : StaysReady first now
  pub setting_is : setting_of printer ≡ setting first.store.now files
  pub done : List Token
  pub whole : left_in first ≡ done ++ left_in now
  pub kept : left_after_tokens done ≡ left_in_printer printer
  pub wrote : written buffer new ≡ written (print (setting first.store.now files) done) old

abbrev pub web_status : script.Web → ℕ
web_status web = status_by (fault_count web.faults) web.plan

-- The acts of `ctangle` after a scan.
abbrev pub tangle_later : Shown → LaterActs
tangle_later shown names web = web_acts shown web
