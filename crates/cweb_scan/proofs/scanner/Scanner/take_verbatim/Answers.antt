use Rattle.cweb_scan.proofs.Common.{List, ℕ, ◌++◌, ap, ◌∙◌, reach, unescaped, End, Cut, Open, emit_verbatim, ended_as, look_in_control}
use Rattle.cweb_scan.proofs.VerbatimAndIncludes.{verbatim_yields}
use Rattle.cweb_scan.proofs.scanner.Scanner.take_verbatim.Goals as goal

pub returns : goal.returns
returns c =
    let s = c.args.self.now in
    let text = c.in_ok-push_units.ensures
    ∙ (λ i. c.new-text.ensures.items i ++ unescaped (reach look_in_control Open (c.split_at.ensures.back i)).units) in
    verbatim_yields c.args.rest.now c.push_units.new.text.items c.reach-reached.result s c.emit_verbatim.new.self
    (rw c.split_at.ensures.back at c.reach-reached.ensures.value) text
    (c.in_ok-emit_verbatim.ensures ∙ ap (λ (e : End). emit_verbatim c.deref.result.now e s) c.ended.ensures
    ∙ ap (λ (x : List ℕ). emit_verbatim x (ended_as Cut c.reach-reached.result.how) s) c.deref.ensures.value)
