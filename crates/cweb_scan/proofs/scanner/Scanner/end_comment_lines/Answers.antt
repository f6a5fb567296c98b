use Rattle.cweb_scan.proofs.Common.{ap, ◌∙◌, arith, get_or, drop, ◌+◌, passed, comment_line_end, ScanState}
use Rattle.cweb_store.specs.surface.Tokens.{token_count}
use Rattle.cweb_scan.specs.inner.ScanParts.{no_place}
use Rattle.cweb_scan.proofs.PendingItems.{passed_next}
use Rattle.cweb_scan.proofs.Weights.{comment_line_end-tokens}
use Rattle.cweb_scan.proofs.scanner.Scanner.end_comment_lines.Goals as goal

pub lines-preserved : goal.lines-preserved
lines-preserved c =
    let i = c.lines.place-index in
    let ps = c.args.places.now in
    let made = c.in_ok-end_comment_line.ensures in (
      ap (passed comment_line_end (drop (i + 1) ps)) made
          ∙ passed_next comment_line_end ps i no_place c.lines.self (omega (arith, c.lines-test.true))
          ∙ c.lines.invariant.0,
      omega (
        arith,
        ap (λ (s : ScanState). token_count s.contents.parts) made,
        comment_line_end-tokens (get_or ps i no_place) c.lines.self,
        c.lines.invariant.1,
      ),
    )
