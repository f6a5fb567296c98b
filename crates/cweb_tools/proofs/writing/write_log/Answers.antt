use Rattle.cweb_tools.proofs.Common.{[], sym, arith, chunks_of}
use Rattle.cweb_tools.proofs.BufferedLog.{buffers_all, buffers_next, fails_at, writes_all, writes_prefix, bytes, joined_is}
use Rattle.cweb_tools.proofs.writing.write_log.Goals as goal

pub returns-in_err-append_chunk : goal.returns-in_err-append_chunk
returns-in_err-append_chunk g c = rw (sym (joined_is c.args.text)) (writes_prefix _
    (fails_at bytes (chunks_of c.args.text) c.chunks.index []
    (omega (arith, c.chunks-test.true, c.chunks-index-end.ensures)) c.chunks.invariant
    (rw c.chunk.ensures at c.in_err-append_chunk.ensures)) c.from_residual.ensures.0)

pub chunks-preserved : goal.chunks-preserved
chunks-preserved g c = buffers_next bytes (chunks_of c.args.text) c.chunks.index []
    (omega (arith, c.chunks-test.true, c.chunks-index-end.ensures)) c.chunks.invariant
    (rw c.chunk.ensures at c.in_ok-append_chunk.ensures)

pub returns : goal.returns
returns g c = rw (sym (joined_is c.args.text)) (writes_all _ _ (buffers_all bytes (chunks_of c.args.text) c.chunks.index
    (omega (arith, c.chunks-test.false, c.chunks-index-end.ensures)) c.chunks.invariant)
    (rw c.as_slice.ensures.value at c.write_all.ensures.wrote))
