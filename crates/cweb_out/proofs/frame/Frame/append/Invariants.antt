use Rattle.cweb_out.proofs.Common.{◌≡◌, length, false}
use Rattle.cweb_out.specs.inner.FrameStacks.{PrintsFrame}
use Rattle.cweb_out.proofs.frame.Frame.append.Given as goal

abbrev pub invariant-parts : goal.invariant-parts
invariant-parts l = record {
  started : l.self.defs ≡ false;
  prints : PrintsFrame l.store l.fn.self l.self l.fn.printer l.printer l.fn.buffer.bytes l.buffer.bytes;
}

abbrev pub decreases-parts : goal.decreases-parts
decreases-parts l = length l.self.rest
