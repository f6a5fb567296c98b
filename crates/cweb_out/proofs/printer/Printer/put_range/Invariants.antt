use Rattle.cweb_out.proofs.Common.{◌≡◌, ◌≤◌, ◌-◌, length, slice_range, take, all_tokens, left_after_edge, ROOM}
use Rattle.cweb_out.proofs.DirectPrefixes.{Passed}
use Rattle.cweb_out.proofs.printer.Printer.put_range.Given as goal

abbrev pub invariant-tokens : goal.invariant-tokens
invariant-tokens l = record {
  from : l.fn.part.first ≤ l.reached.number;
  upto : l.reached.number ≤ l.fn.part.after;
  size : length l.bytes ≡ ROOM;
  within : l.reached.used ≤ ROOM;
  passed : Passed l.self (slice_range (all_tokens l.store.parts) l.fn.part.first l.reached.number)
      (left_after_edge l.reached.last) (take l.fn.used l.fn.bytes) (take l.reached.used l.bytes);
}

abbrev pub decreases-tokens : goal.decreases-tokens
decreases-tokens l = l.part.after - l.reached.number
