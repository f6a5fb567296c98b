use Rattle.cweb_out.proofs.Common.{written, ◌≡◌, ◌≤◌, slice_range, all_tokens, all_added, at_start, left_after_tokens, macro_by, replaced_in}
use Rattle.cweb_out.proofs.printer.macros.write_macro_tokens.Given as goal

abbrev pub invariant-tokens : goal.invariant-tokens
invariant-tokens g l = record {
  from : l.fn.part.first ≤ l.number;
  end : l.number-end ≡ l.fn.part.after;
  left : l.left ≡ left_after_tokens (slice_range (all_tokens l.store.parts) l.fn.part.first l.number);
  wrote : g.W.ChunkSink.model l.out ≡ written (all_added (macro_by (replaced_in l.store)) at_start
      (slice_range (all_tokens l.store.parts) l.fn.part.first l.number)) (g.W.ChunkSink.model l.fn.out);
  borrows : g.W.ChunkSink.borrows l.out ≡ g.W.ChunkSink.borrows l.fn.out;
}
