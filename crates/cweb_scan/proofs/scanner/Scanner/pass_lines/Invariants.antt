use Rattle.cweb_scan.proofs.Common.{◌≡◌, drop, passed, move_to}
use Rattle.cweb_scan.proofs.scanner.Scanner.pass_lines.Given as goal

abbrev pub invariant-lines : goal.invariant-lines
invariant-lines l = passed move_to (drop l.place-index l.places) l.self ≡ passed move_to l.places l.fn.self
