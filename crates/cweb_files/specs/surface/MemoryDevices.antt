-- The models of devices in memory: a shelf, a sink and bins.
use Rattle.std.specs.Prelude.{◌≡◌, ◌<◌, ℕ, List, [], ◌∷◌, Option, Some, None, if◌then◌else◌, drop, length, slice_get}
use Rattle.std.specs.Prelude.{string_bytes, vec_capacity, Bool, true, false, not, ◌++◌, filter, map, option_map}
use Rattle.std.specs.Str.{bytes_eq}
use Rattle.cweb_files.specs.Shelves.{ShelfContents, ShelfModel}
use Rattle.cweb_files.specs.Sinks.{SinkModel, Beside}
use Rattle.cweb_files.specs.surface.Writes.{always_open}
use Rattle.cweb_files.specs.declared.memory.Entry.{Entry}
use Rattle.cweb_files.specs.declared.memory.MemoryShelf.{MemoryShelf}
use Rattle.cweb_files.specs.declared.memory.MemoryReader.{MemoryReader}
use Rattle.cweb_files.specs.declared.memory.MemorySink.{MemorySink}
use Rattle.std.specs.Option.{is_some}
use Rattle.cweb_files.specs.Files.{File}
use Rattle.cweb_files.specs.declared.bins.BinFault.{BinFault}
use Rattle.cweb_files.specs.declared.bins.BinFault.TheVariants.{Memory}
use Rattle.cweb_files.specs.declared.bins.memory.BinFile.{BinFile}
use Rattle.cweb_files.specs.declared.bins.memory.MemoryBins.{MemoryBins}

-- The first of two options that is `Some`.
abbrev pub first_of : {A : Type 0} → Option A → Option A → Option A
first_of (Some x) other = Some x
first_of None other = other

abbrev pub contents_if_named : Entry → List ℕ → Option (List ℕ)
contents_if_named entry name = if bytes_eq (string_bytes entry.name) name then Some entry.text.items else None

-- The last entry of a name counts.
abbrev pub contents_in_entries : List Entry → List ℕ → Option (List ℕ)
contents_in_entries [] name = None
contents_in_entries (entry ∷ entries) name = first_of (contents_in_entries entries name) (contents_if_named entry name)

abbrev pub shelf_contents : MemoryShelf → List ℕ → Option (List ℕ)
shelf_contents shelf name = contents_in_entries shelf.entries.items name

-- The bytes of an entry from an offset on.
abbrev pub contents_from : Option Entry → ℕ → List ℕ
contents_from (Some entry) at = drop at entry.text.items
contents_from None at = []

abbrev pub entry_name : Option Entry → List ℕ
entry_name (Some entry) = string_bytes entry.name
entry_name None = []

abbrev pub rest_in : List Entry → MemoryReader → List ℕ
rest_in entries reader = contents_from (slice_get entries reader.entry) reader.at

abbrev pub name_in : List Entry → MemoryReader → List ℕ
name_in entries reader = entry_name (slice_get entries reader.entry)

abbrev pub reader_rest : MemoryShelf → MemoryReader → List ℕ
reader_rest shelf = rest_in shelf.entries.items

abbrev pub reader_name : MemoryShelf → MemoryReader → List ℕ
reader_name shelf = name_in shelf.entries.items

-- The contents of these names, for readers of `entries`.
abbrev pub contents_read : (List ℕ → Option (List ℕ)) → List Entry → ShelfContents MemoryReader
contents_read texts entries = record {
  texts = texts;
  left = rest_in entries;
  opened_as = name_in entries;
  blamed = [];
}

-- No read fails.
abbrev pub shelf_model : MemoryShelf → ShelfModel MemoryReader
shelf_model shelf = record {
  failed = 0;
  contents = Some (contents_read (shelf_contents shelf) shelf.entries.items);
}

abbrev pub IsReaderOpen : MemoryShelf → MemoryReader → Type 0
IsReaderOpen shelf reader = reader.entry < length shelf.entries.items

-- Open readers stay open, with the same name and rest.
pub record KeepsOpenReaders (old new : MemoryShelf) : Type 0 where
  pub stays : (reader : MemoryReader) → IsReaderOpen old reader → IsReaderOpen new reader
  pub left : (reader : MemoryReader) → IsReaderOpen old reader → reader_rest new reader ≡ reader_rest old reader
  pub names : (reader : MemoryReader) → IsReaderOpen old reader → reader_name new reader ≡ reader_name old reader

abbrev pub sink_bytes : MemorySink → List ℕ
sink_bytes sink = sink.bytes.items

abbrev pub sink_room : MemorySink → ℕ
sink_room sink = vec_capacity sink.bytes

abbrev pub sink_failed : MemorySink → ℕ
sink_failed sink = sink.failed

abbrev pub sink_model : MemorySink → SinkModel
sink_model sink = record {
  failed = sink.failed;
  contents = Some (record { bytes = sink.bytes.items; beside = always_open });
}

-- The model of files in memory.
abbrev pub as_file : BinFile → File
as_file file = record { name = string_bytes file.name; bytes = file.bytes.items }

abbrev pub bin_file_name : BinFile → List ℕ
bin_file_name file = string_bytes file.name

abbrev pub bin_file_bytes : Option BinFile → List ℕ
bin_file_bytes None = []
bin_file_bytes (Some file) = file.bytes.items

abbrev pub bin_file_room : Option BinFile → ℕ
bin_file_room None = 0
bin_file_room (Some file) = vec_capacity file.bytes

abbrev pub committed_files : MemoryBins → List BinFile
committed_files bins = bins.files.items

abbrev pub draft_bytes : MemoryBins → List ℕ
draft_bytes bins = bin_file_bytes bins.draft

-- The only reason for a refusal in memory is want of memory.
abbrev pub memory_refusal : Bool → Option BinFault
memory_refusal true = Some Memory
memory_refusal false = None

abbrev pub last_refusal : MemoryBins → Option BinFault
last_refusal bins = memory_refusal bins.refused

abbrev pub beside_draft : MemoryBins → Beside
beside_draft bins = record {
  files = map as_file bins.files.items;
  draft = option_map bin_file_name bins.draft;
  refused = last_refusal bins;
}

abbrev pub bins_model : MemoryBins → SinkModel
bins_model bins = record {
  failed = bins.failed;
  contents = Some (record { bytes = draft_bytes bins; beside = beside_draft bins });
}

abbrev pub bins_failed : MemoryBins → ℕ
bins_failed bins = bins.failed

abbrev pub has_draft : MemoryBins → Bool
has_draft bins = is_some bins.draft

-- The capacity of the draft's buffer, in bytes.
abbrev pub draft_room : MemoryBins → ℕ
draft_room bins = bin_file_room bins.draft

-- The capacity that a new draft gets, in bytes.
abbrev pub new_draft_room : MemoryBins → ℕ
new_draft_room bins = bins.room

-- The capacity of the list of files.
abbrev pub list_room : MemoryBins → ℕ
list_room bins = vec_capacity bins.files

-- The list of files, its capacity and the capacity of new drafts are unchanged.
pub record KeepsFiles (old new : MemoryBins) : Type 0 where
  pub files : new.files ≡ old.files
  pub room : new_draft_room new ≡ new_draft_room old

-- The draft's name and the capacity of that string are unchanged.
abbrev pub KeepsDraftName : MemoryBins → MemoryBins → Type 0
KeepsDraftName old new =
    option_map (λ (file : BinFile). file.name) new.draft ≡ option_map (λ (file : BinFile). file.name) old.draft

-- The list of files after a draft, if any, is committed.
abbrev pub files_with_draft : List BinFile → Option BinFile → List BinFile
files_with_draft files None = files
files_with_draft files (Some draft) =
    filter (λ file. not (bytes_eq (string_bytes file.name) (string_bytes draft.name))) files ++ draft ∷ []
