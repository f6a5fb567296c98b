use Rattle.cweb_lines.proofs.NextLines.{next_found}
use Rattle.cweb_lines.proofs.passing.next.next_in.Goals as goal

pub returns : goal.returns
returns g c = next_found _ _ c.in-Some.is _ c.line_from.ensures.line c.line_from.ensures.one
