use Rattle.cweb_out.proofs.Common.{◌≡◌, written, take, word_bytes, replaced_in}
use Rattle.cweb_out.proofs.printer.plain.write_word_bytes.Given as goal

abbrev pub invariant-bytes : goal.invariant-bytes
invariant-bytes g l = record {
  wrote : g.W.ChunkSink.model l.out ≡ written (word_bytes (replaced_in l.store) (take l.byte-index l.bytes)) (g.W.ChunkSink.model
      l.fn.out);
  borrows : g.W.ChunkSink.borrows l.out ≡ g.W.ChunkSink.borrows l.fn.out;
}
