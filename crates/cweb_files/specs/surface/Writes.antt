-- What calls write to a sink.
use Rattle.std.specs.Prelude.{◌≡◌, ◌+◌, ℕ, List, [], ◌++◌, None, Result, Ok, Err, Some}
use Rattle.cweb_files.specs.Sinks.{Beside, FailsWithin, SinkModel, appended, written}

-- The state of a plain sink: one unnamed draft that is always open.
abbrev pub always_open : Beside
always_open = record { files = []; draft = Some []; refused = None }

-- The failure count rises by one on a fault and is otherwise unchanged.
abbrev pub CountsFailure : {A E : Type 0} → ℕ → ℕ → Result A E → Type 0
CountsFailure before now (Ok x) = now ≡ before
CountsFailure before now (Err e) = now ≡ before + 1

-- A prefix of the text was written, whether or not the sink failed.
pub record WritesPrefix (text : List ℕ) (old new : SinkModel) : Type 0 where
  pub prefix : List ℕ
  pub rest : List ℕ
  pub whole : text ≡ prefix ++ rest
  pub is : new.contents ≡ appended prefix old.contents

-- Some bytes were written, whether or not the sink failed.
pub record Prints (old new : SinkModel) : Type 0 where
  pub text : List ℕ
  pub is : new.contents ≡ appended text old.contents

-- The text was written, or after a fault a prefix of it.
abbrev pub Wrote : {A E : Type 0} → List ℕ → SinkModel → SinkModel → Result A E → Type 0
Wrote text old new (Ok x) = new ≡ written text old
Wrote text old new (Err fault) = FailsWithin text old new
