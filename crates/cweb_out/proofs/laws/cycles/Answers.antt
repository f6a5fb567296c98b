use Rattle.cweb_out.proofs.CycleLaw.{refused_cycles_are_cycles}
use Rattle.cweb_out.proofs.laws.cycles.Goals as goal

pub returns : goal.returns
returns c = refused_cycles_are_cycles
