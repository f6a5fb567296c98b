use Rattle.std.proofs.Common.{arith}
use Rattle.cweb_system.proofs.Steps.{alone_created, keeps, may_create_decent}
use Rattle.cweb_system.proofs.drafts.steps.create_at.Goals as goal

pub returns-clause-decent : goal.returns-clause-decent
returns-clause-decent g c read = grind (arith, keeps, may_create_decent)

pub returns-clause-alone : goal.returns-clause-alone
returns-clause-alone g c some = alone_created g.F.FileSystem.key c.args.path.text.now _ _ c.create.result
    (c.create.ensures.place some) (c.create.ensures.ok some)
