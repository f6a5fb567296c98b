use Rattle.cweb_scan.proofs.Common.{◌≡◌, ◌≤◌, ◌+◌, drop, at_line_ends}
use Rattle.cweb_scan.proofs.scanner.literals.newlines.Given as goal

abbrev pub invariant-bytes : goal.invariant-bytes
invariant-bytes l = record {
  so_far : l.count + at_line_ends 1 (drop l.byte-index l.bytes) ≡ at_line_ends 1 l.bytes;
  within : l.count ≤ l.byte-index;
}
