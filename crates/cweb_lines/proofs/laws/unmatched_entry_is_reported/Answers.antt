use Rattle.cweb_lines.proofs.Common.{◌+◌, [], ◌∷◌, List, Some, ◌∙◌, ap, append-nil, length, Line, Place, WaitingEntry, NoMatch, at_place, cut_lines, lines_in, lines, placed}
use Rattle.cweb_lines.proofs.OutcomeOfEvents.{seek_unseen}
use Rattle.cweb_lines.proofs.PlainLines.{finds, passes_all, web_from}
use Rattle.cweb_lines.proofs.laws.unmatched_entry_is_reported.Goals as goal

pub returns : goal.returns
returns c = λ world web change comment begin first rest is no_codes begins no_first some plain_web others.
    let at : Place = record { file = record { 0 = 1 }; line = 1 + length comment } in
    let entry : WaitingEntry = record { begin = at; first = first } in
    let found = finds 1 comment begin first rest (cut_lines change) is no_codes begins some no_first in
    seek_unseen world (web_from 1 (cut_lines web)) (lines_in 1 change) 2 found.taken (Some entry) found.rest found.is
    ∙ passes_all world entry found.rest 2 1 (cut_lines web) plain_web others
    ∙ ap (λ (ls : List Line). record { lines = ls; faults = at_place NoMatch entry.begin ∷ []; included = [] })
    (append-nil (placed 0 1 (lines web)))
