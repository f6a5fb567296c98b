-- What is known of a sink or of bins, and how calls change it.
use Rattle.std.specs.Prelude.{◌≡◌, ◌+◌, ℕ, List, [], ◌++◌, Option, Some, None, IfSome, IsSome, option_map}
use Rattle.cweb_files.specs.Files.{File, with_bytes}
use Rattle.cweb_files.specs.declared.bins.BinFault.{BinFault}

-- The state of bins besides the draft's bytes: the files in commit order, the name of the draft if there is one, and
-- why the last `start_file` was refused, if it was.
pub record Beside : Type 0 where
  pub files : List File
  pub draft : Option (List ℕ)
  pub refused : Option BinFault

-- The bytes written so far, which are those of the draft, and what is beside them. A call that leaves no draft leaves no
-- bytes.
pub record SinkContents : Type 0 where
  pub bytes : List ℕ
  pub beside : Beside

-- A sink: the number of failed calls, and the contents if they are observable, which never changes.
pub record SinkModel : Type 0 where
  pub failed : ℕ
  pub contents : Option SinkContents

-- The contents change.
abbrev pub changed : (SinkContents → SinkContents) → SinkModel → SinkModel
changed change sink = record sink { contents = option_map change sink.contents }

-- A call fails and changes nothing.
abbrev pub failed_once : SinkModel → SinkModel
failed_once sink = record sink { failed = sink.failed + 1 }

-- The contents change, and the call fails.
abbrev pub failing : (SinkContents → SinkContents) → SinkModel → SinkModel
failing change sink = record { failed = sink.failed + 1; contents = option_map change sink.contents }

-- These bytes are appended to the draft.
abbrev pub with_printed : List ℕ → SinkContents → SinkContents
with_printed text now = record now { bytes = now.bytes ++ text }

-- An empty draft of this name is begun, and an earlier one discarded.
abbrev pub with_draft : List ℕ → SinkContents → SinkContents
with_draft name now =
    record { bytes = []; beside = record { files = now.beside.files; draft = Some name; refused = None } }

-- There is no draft, and an earlier one is discarded. `why` is why the last `start_file` was refused, if it was.
abbrev pub without_file : Option BinFault → SinkContents → SinkContents
without_file why now =
    record { bytes = []; beside = record { files = now.beside.files; draft = None; refused = why } }

-- The draft is discarded.
abbrev pub without_draft : SinkContents → SinkContents
without_draft now = without_file now.beside.refused now

-- The draft becomes a file.
abbrev pub committed : SinkContents → SinkContents
committed now = record {
  bytes = [];
  beside = record {
    files = with_bytes now.beside.files now.beside.draft now.bytes;
    draft = None;
    refused = now.beside.refused;
  };
}

-- There is a draft, if the contents are observable.
abbrev pub HasDraft : SinkModel → Type 0
HasDraft sink = IfSome sink.contents (λ now. IsSome now.beside.draft)

-- The contents after this text is written.
abbrev pub appended : List ℕ → Option SinkContents → Option SinkContents
appended text contents = option_map (with_printed text) contents

-- A sink after this text is written to it.
abbrev pub written : List ℕ → SinkModel → SinkModel
written text sink = changed (with_printed text) sink

-- A prefix of the text was written, and the sink failed.
pub record FailsWithin (text : List ℕ) (old new : SinkModel) : Type 0 where
  pub prefix : List ℕ
  pub rest : List ℕ
  pub whole : text ≡ prefix ++ rest
  pub is : new ≡ failing (with_printed prefix) old
