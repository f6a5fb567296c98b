use Rattle.std.proofs.Common.{arith}
use Rattle.cweb_out.proofs.Common.{word_byte, replaced_in}
use Rattle.cweb_out.proofs.AppendedParts.{items_then, items_until}
use Rattle.cweb_files.proofs.Appending.{written_none}
use Rattle.cweb_out.proofs.printer.plain.write_word_bytes.Goals as goal

pub bytes-init : goal.bytes-init
bytes-init g c = record { wrote = written_none (g.W.ChunkSink.model c.args.out.now); borrows = grind arith }

pub bytes-preserved : goal.bytes-preserved
bytes-preserved g c = record {
  wrote = items_then (word_byte (replaced_in c.args.store.now)) c.args.bytes.now c.bytes.byte-index _ _ _
      c.bytes-test.true c.bytes.invariant.wrote c.in_ok-write_word_byte.ensures.wrote;
  borrows = grind arith;
}

pub returns-in_err-write_word_byte : goal.returns-in_err-write_word_byte
returns-in_err-write_word_byte g c = record {
  wrote =
      items_until (word_byte (replaced_in c.args.store.now)) c.args.bytes.now c.bytes.byte-index _ _ _ _
      c.from_residual.result c.bytes-test.true c.from_residual.ensures.0 c.bytes.invariant.wrote
      c.in_err-write_word_byte.ensures.wrote;
  borrows = grind arith;
}
