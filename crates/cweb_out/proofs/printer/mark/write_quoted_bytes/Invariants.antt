use Rattle.cweb_out.proofs.Common.{◌≡◌, written, take, quoted}
use Rattle.cweb_out.proofs.printer.mark.write_quoted_bytes.Given as goal

abbrev pub invariant-bytes : goal.invariant-bytes
invariant-bytes g l = record {
  wrote : g.W.ChunkSink.model l.out ≡ written (quoted (take l.byte-index l.name)) (g.W.ChunkSink.model l.fn.out);
  borrows : g.W.ChunkSink.borrows l.out ≡ g.W.ChunkSink.borrows l.fn.out;
}
