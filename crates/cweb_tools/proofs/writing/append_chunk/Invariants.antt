use Rattle.cweb_tools.proofs.Common.{take, Buffers, joined_parts}
use Rattle.cweb_tools.proofs.writing.append_chunk.Given as goal

abbrev pub invariant-parts : goal.invariant-parts
invariant-parts g l = Buffers (joined_parts (take l.part-index l.parts)) (g.L.Sink.model l.fn.log)
    (g.L.Sink.model l.log) l.fn.buffer.items l.buffer.items
