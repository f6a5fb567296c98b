use Rattle.cweb_lines.proofs.Common.{[], pending_of, top_of, rules}
use Rattle.cweb_lines.proofs.Lookahead.{looks_at, looks_first}
use Rattle.cweb_lines.proofs.merger.Merger.first_ahead.Goals as goal

pub returns-clause-looks : goal.returns-clause-looks
returns-clause-looks g c =
    let run = c.args.self.now.run in
    let next = c.in_ok-stretch.ensures.lines in
    looks_at run [] _ next.1.settled next.1.above c.in_ok-stretch.ensures.fits
    (looks_first (pending_of run) (top_of run.stack) c.in_ok-stretch.stretch
    c.in_ok-line.line next.0 next.1.in_place c.in_ok-stretch.ensures.one c.in_ok-line.ensures)

pub returns-clause-running : goal.returns-clause-running
returns-clause-running g c = search rules
