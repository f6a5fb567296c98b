use Rattle.cweb_lines.proofs.Common.{◌≡◌, arith, bytes_eq-Decides}
use Rattle.cweb_lines.specs.inner.PassingChanges.{last_bytes}
use Rattle.cweb_lines.proofs.OldSides.{one_more_part}
use Rattle.cweb_lines.proofs.passing.old_side.one_more_old.Goals as goal

pub returns-clause-part : goal.returns-clause-part
returns-clause-part g c = λ first part.
    let web = c.args.web.now in
    let change = c.args.change.now in
    let line = c.in_ok-more.ensures.more part.before part.raw part.web_is in
    let side = c.in_ok-side.ensures.more part.olds part.last part.side_is in
    let same : last_bytes web c.in_ok-more.more ≡ last_bytes change c.args.ahead.side = grind (arith, bytes_eq-Decides) in
    one_more_part web change first c.args.ahead c.in_ok-more.more c.in_ok-side.side part line.0 side.0 line.1 side.1
    c.requires.old same
