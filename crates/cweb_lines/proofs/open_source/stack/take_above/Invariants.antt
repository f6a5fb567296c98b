use Rattle.cweb_lines.proofs.Common.{◌<◌, None, ◌≡◌, ◌≤◌, List, ℕ, counters_of, Observed, Thing, AreReadersNamed, things_above, AreDeep, StaysBelow, files_up_to, line_number, maximum_of}
use Rattle.std.specs.Prelude.{slice_index_or}
use Rattle.cweb_lines.specs.inner.LineCalls.{KeepsNumbers}
use Rattle.cweb_lines.proofs.open_source.stack.take_above.Given as goal

abbrev pub invariant-texts : goal.invariant-texts
invariant-texts g l = record {
  unread : g.S.Shelf.model l.shelf ≡ g.S.Shelf.model l.fn.shelf;
  named : Observed (g.S.Shelf.model l.fn.shelf) (λ seen. (names : List (List ℕ))
      → AreReadersNamed seen.opened_as names l.fn.stack.texts → AreReadersNamed seen.opened_as names l.stack.texts);
  low : l.low ≤ l.stack.depth;
  shallow : l.stack.depth ≤ l.fn.stack.depth;
  numbers : maximum_of line_number l.stack.texts ≤ l.limits.lines;
  deep : AreDeep l.stack.texts;
  files : maximum_of files_up_to l.stack.texts ≤ maximum_of files_up_to l.fn.stack.texts;
  below : StaysBelow l.low l.fn.stack.texts l.stack.texts;
  kept : KeepsNumbers l.fn.stack l.stack;
  same : (place : ℕ) → place < l.stack.depth
      → slice_index_or l.stack.texts place None ≡ slice_index_or l.fn.stack.texts place None;
  counted : counters_of l.limits ≡ counters_of l.fn.limits;
  things : Observed (g.S.Shelf.model l.fn.shelf) (λ seen. (rest : List Thing)
      → things_above seen.left l.low l.fn.stack rest ≡ things_above seen.left l.low l.stack rest);
}

abbrev pub decreases-texts : goal.decreases-texts
decreases-texts g l = l.stack.depth
