use Rattle.std.proofs.Common.{slice_index_or}
use Rattle.cweb_system.proofs.Files.{clearing}
use Rattle.cweb_system.proofs.drafts.creating.clear_other.Goals as goal

pub returns-clause-leaves : goal.returns-clause-leaves
returns-clause-leaves g c = clearing c.args.files.now c.args.path.text.now _ _ c.remove_left.ensures.clears
    (λ some k d within. c.requires some (slice_index_or c.args.files.now.written.items k d).key)
