use Rattle.cweb_tools.proofs.SpacingLaw.{law}
use Rattle.cweb_tools.proofs.laws.spacing.Goals as goal

pub returns : goal.returns
returns c = law
