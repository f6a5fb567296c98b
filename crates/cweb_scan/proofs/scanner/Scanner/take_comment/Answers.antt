use Rattle.cweb_scan.proofs.Common.{arith, length-drop, ap, ◌∙◌, Cut, pass_comment, ended_as, passed, comment_line_end, ScanState}
use Rattle.cweb_scan.proofs.Ends.{extent_fits}
use Rattle.cweb_scan.proofs.PendingComments.{comment_applies}
use Rattle.cweb_scan.proofs.scanner.Scanner.take_comment.Goals as goal

pub overflow_add-result : goal.overflow_add-result
overflow_add-result c = grind (arith, extent_fits, length-drop)

pub overflow_add-result-2 : goal.overflow_add-result-2
overflow_add-result-2 c = grind (arith, extent_fits, length-drop)

pub returns : goal.returns
returns c =
    let s = c.args.self.now in
    let ps = c.args.places.now in
    comment_applies c.args.text.now ps c.args.extent s c.pass_comment.new.self c.requires.extent c.requires.lines
    (c.in_ok-pass_comment.ensures
    ∙ (λ i. pass_comment (c.ended.ensures i) (c.self.view_is i).here (c.in_ok-end_comment_lines.ensures i))
    ∙ ap (λ (v : ScanState). pass_comment (ended_as Cut c.args.extent.how) s.here (passed comment_line_end ps v))
    c.in_ok-blank.ensures)
