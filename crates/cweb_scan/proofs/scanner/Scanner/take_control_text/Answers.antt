use Rattle.cweb_scan.proofs.Common.{ap, ◌∙◌, End, pass_control_text}
use Rattle.cweb_scan.proofs.Ends.{control_yields}
use Rattle.cweb_scan.proofs.scanner.Scanner.take_control_text.Goals as goal

pub returns : goal.returns
returns c =
    let s = c.args.self.now in
    control_yields c.args.rest.now c.reach-reached.result s c.pass_control_text.new.self
    (rw c.split_at.ensures.back at c.reach-reached.ensures.value)
    (c.in_ok-pass_control_text.ensures ∙ ap (λ (e : End). pass_control_text e s) c.ended.ensures)
