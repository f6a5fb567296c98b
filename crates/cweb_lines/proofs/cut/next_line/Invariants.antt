use Rattle.cweb_lines.proofs.Common.{◌≡◌, ◌≤◌, ◌-◌, ◌++◌, length, HasNoNewline, buffered, bytes_left, LINE_LENGTH, ◌⊎◌, Observed}
use Rattle.cweb_lines.proofs.cut.next_line.Given as goal

abbrev pub invariant-pieces : goal.invariant-pieces
invariant-pieces g l = record {
  same : g.S.Shelf.model l.shelf ≡ g.S.Shelf.model l.fn.shelf;
  opened : Observed (g.S.Shelf.model l.fn.shelf)
      (λ seen. seen.opened_as l.source.reader.value ≡ seen.opened_as l.fn.source.reader.value);
  bytes : Observed (g.S.Shelf.model l.fn.shelf)
      (λ seen. bytes_left seen.left l.fn.source ≡ l.line.items ++ bytes_left seen.left l.source);
  none : HasNoNewline l.line.items;
  needed : (l.source ≡ l.fn.source) ⊎ HasNoNewline (buffered l.fn.source);
  within : length l.line.items ≤ LINE_LENGTH;
}

abbrev pub decreases-pieces : goal.decreases-pieces
decreases-pieces g l = LINE_LENGTH - length l.line.items
