-- What bins of one file store.
use Rattle.std.specs.Prelude.{ℕ, List, [], Option, Some, None, option_map, option_to_list, string_bytes}
use Rattle.cweb_out.specs.Files.{File}
use Rattle.cweb_out.specs.Sinks.{Beside, SinkModel}
use Rattle.cweb_tools_tests.specs.declared.own_bins.NamedFile.{NamedFile}
use Rattle.cweb_tools_tests.specs.declared.own_bins.OneBin.{OneBin}

abbrev pub file_of : NamedFile → File
file_of file = record { name = string_bytes file.name; bytes = file.bytes.items }

abbrev pub draft_bytes : Option NamedFile → List ℕ
draft_bytes None = []
draft_bytes (Some file) = file.bytes.items

abbrev pub beside_in : OneBin → Beside
beside_in bin = record {
  files = option_to_list (option_map file_of bin.file);
  draft = option_map (λ (file : NamedFile). string_bytes file.name) bin.draft;
  refused = bin.refused;
}

abbrev pub model_of : OneBin → SinkModel
model_of bin = record {
  failed = bin.failed;
  contents = Some (record { bytes = draft_bytes bin.draft; beside = beside_in bin });
}
