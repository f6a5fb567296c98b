use Rattle.cweb_scan.proofs.Common.{ap, ◌∙◌, arith, drop, ◌+◌, passed, move_to}
use Rattle.cweb_scan.specs.inner.ScanParts.{no_place}
use Rattle.cweb_scan.proofs.PendingItems.{passed_next}
use Rattle.cweb_scan.proofs.scanner.Scanner.pass_lines.Goals as goal

pub lines-preserved : goal.lines-preserved
lines-preserved c =
    let i = c.lines.place-index in
    let ps = c.args.places.now in
    ap (passed move_to (drop (i + 1) ps)) c.go_to.ensures
    ∙ passed_next move_to ps i no_place c.lines.self (omega (arith, c.lines-test.true)) ∙ c.lines.invariant
