-- What contracts know of a stream.
use Rattle.std.specs.Prelude.{ℕ, List, [], Bool, true, false, Option, Some, None}
use Rattle.std.specs.Option.{unwrap_or}
use Rattle.cweb_files.specs.Sinks.{SinkModel}
use Rattle.cweb_files.specs.surface.Writes.{always_open}
use Rattle.std.specs.declared.io.traits.Write.{Ghosts as Write}
use Rattle.cweb_system.specs.declared.streams.StdSink.{StdSink}

-- The contents of a stream, if they are known.
abbrev pub known : {A : Type 0} → Bool → A → Option A
known true contents = Some contents
known false contents = None

abbrev pub stream_of : {W : Type 0} {write : Write W} → StdSink W write → W
stream_of sink = sink.stream

-- The bytes of the stream, if they are known.
abbrev pub sink_bytes : {W : Type 0} (write : Write W) → StdSink W write → List ℕ
sink_bytes write sink = unwrap_or (write.contents sink.stream) []

abbrev pub sink_model : {W : Type 0} (write : Write W) → StdSink W write → SinkModel
sink_model write sink = record {
  failed = sink.failed;
  contents = known sink.is_known (record { bytes = sink_bytes write sink; beside = always_open });
}
