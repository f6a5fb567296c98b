use Rattle.cweb_system.specs.Steps.{keys_in}
use Rattle.cweb_system.proofs.SetMembership.{among}
use Rattle.cweb_system.proofs.file_set.FileSet.contains.Goals as goal

pub returns-clause-members : goal.returns-clause-members
returns-clause-members c = among c.args.file (keys_in c.args.self.now) c.contains.result c.contains.ensures
