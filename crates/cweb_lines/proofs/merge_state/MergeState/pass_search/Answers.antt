use Rattle.cweb_lines.proofs.Common.{◌∙◌, ap, sym, arith, change_code}
use Rattle.cweb_lines.proofs.NextLines.{silent, silent_none}
use Rattle.cweb_lines.proofs.PassedChanges.{comment_yields}
use Rattle.cweb_lines.proofs.merge_state.MergeState.pass_search.Goals as goal

pub returns-in_default : goal.returns-in_default
returns-in_default g c = silent_none _ _ (λ is. cc)

pub returns-in-Some-change_code : goal.returns-in-Some-change_code
returns-in-Some-change_code g c = silent_none _ _ (λ is. cc)

pub returns-in-None : goal.returns-in-None
returns-in-None g c =
    let takes = c.take_change_ahead.ensures in
    let code = ap change_code (sym c.text_in.ensures) ∙ sym c.change_code.ensures ∙ c.in-None.is in
    silent _ _ _ (comment_yields _ _ c.in-Some.next takes c.requires.seeking code) takes.only.stopped takes.only.names
    (omega (arith, takes.counted)) takes.readers
