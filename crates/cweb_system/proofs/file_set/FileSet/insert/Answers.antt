use Rattle.cweb_system.specs.Steps.{keys_in}
use Rattle.cweb_system.proofs.SetMembership.{kept_among, only_among}
use Rattle.cweb_system.proofs.file_set.FileSet.insert.Goals as goal

pub returns-clause-kept : goal.returns-clause-kept
returns-clause-kept c = kept_among c.args.file (keys_in c.args.self.now) _ c.in_ok-insert.ensures.updates.0

pub returns-clause-only : goal.returns-clause-only
returns-clause-only c = only_among c.args.file (keys_in c.args.self.now) _ c.in_ok-insert.ensures.updates.0
