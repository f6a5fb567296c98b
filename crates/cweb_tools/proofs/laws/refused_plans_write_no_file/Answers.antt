use Rattle.cweb_tools.proofs.Leaving.{refused_stays}
use Rattle.cweb_tools.proofs.laws.refused_plans_write_no_file.Goals as goal

pub returns : goal.returns
returns c = refused_stays
