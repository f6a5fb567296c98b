use Rattle.cweb_tools.proofs.Common.{[], take, Buffers, chunks_of}
use Rattle.cweb_tools.proofs.BufferedLog.{joined}
use Rattle.cweb_tools.proofs.writing.write_log.Given as goal

abbrev pub invariant-chunks : goal.invariant-chunks
invariant-chunks g l = Buffers (joined (take l.index (chunks_of l.text))) (g.L.Sink.model l.fn.log)
    (g.L.Sink.model l.log) [] l.buffer.items
