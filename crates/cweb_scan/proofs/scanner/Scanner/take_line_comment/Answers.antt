use Rattle.cweb_scan.proofs.Common.{ap, ◌∙◌, End, pass_comment, Closed, ended_as, ScanState}
use Rattle.cweb_scan.proofs.Ends.{line_comment_yields}
use Rattle.cweb_scan.proofs.scanner.Scanner.take_line_comment.Goals as goal

pub returns : goal.returns
returns c =
    let s = c.args.self.now in
    line_comment_yields c.args.rest.now c.reach-reached.result s c.pass_comment.new.self (rw c.split_at.ensures.back
    at c.reach-reached.ensures.value) (c.in_ok-pass_comment.ensures ∙ ap (λ (u : ScanState). pass_comment c.ended.result
    u.here c.blank.new.self) c.self.view_is ∙ ap (λ (e : End). pass_comment e s.here c.blank.new.self) c.ended.ensures
    ∙ ap (λ (u : ScanState). pass_comment (ended_as Closed c.reach-reached.result.how) s.here u) c.in_ok-blank.ensures)
