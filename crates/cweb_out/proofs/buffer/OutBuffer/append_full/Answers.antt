use Rattle.cweb_out.proofs.Common.{arith}
use Rattle.std.proofs.lemmas.List.{take-append-drop}
use Rattle.cweb_out.proofs.Buffering.{after_flush}
use Rattle.cweb_out.proofs.buffer.OutBuffer.append_full.Goals as goal

pub returns-then-rest-gt-ROOM : goal.returns-then-rest-gt-ROOM
returns-then-rest-gt-ROOM g c =
    after_flush _ _ _ _ _ _ _ _ _ c.write_all.result (grind (arith, take-append-drop)) c.push.ensures c.in_ok-flush.ensures.moved c.in_ok-flush.ensures.empty
    c.write_all.ensures.wrote
