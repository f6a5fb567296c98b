use Rattle.cweb_out.proofs.Common.{◌≡◌, ◌≤◌, length, All, all_tokens}
use Rattle.cweb_out.proofs.AppendedParts.{WrittenBefore}
use Rattle.cweb_out.proofs.MacroLines.{lines, all_lines}
use Rattle.cweb_out.proofs.printer.macros.write_macros.Given as goal

abbrev pub invariant-macros : goal.invariant-macros
invariant-macros g l = record {
  ordered : All (λ p. p.first ≤ p.after) l.parts;
  within : All (λ p. p.after ≤ length (all_tokens l.store.parts)) l.parts;
  wrote : WrittenBefore (g.W.ChunkSink.model l.fn.out) (g.W.ChunkSink.model l.out) (all_lines l.store) (lines l.store l.parts);
  borrows : g.W.ChunkSink.borrows l.out ≡ g.W.ChunkSink.borrows l.fn.out;
}

abbrev pub decreases-macros : goal.decreases-macros
decreases-macros g l = length l.parts
