use Rattle.cweb_system.specs.Tree.{SetsMode}
use Rattle.cweb_system.proofs.Steps.{alone_set, keeps, sets_mode_decent}
use Rattle.cweb_system.proofs.drafts.steps.set_draft_mode.Goals as goal

pub returns-clause-decent : goal.returns-clause-decent
returns-clause-decent g c read =
    keeps read (λ _. SetsMode (g.F.FileSystem.key c.args.file.now) c.args.mode) c.set_mode.ensures
    (λ some done. sets_mode_decent read (g.F.FileSystem.key c.args.file.now) c.args.mode _ _ (c.requires some))

pub returns-clause-alone : goal.returns-clause-alone
returns-clause-alone g c some path = alone_set path (g.F.FileSystem.key c.args.file.now) c.args.mode _ _
    c.set_mode.result (c.set_mode.ensures.place some) (c.set_mode.ensures.ok some) (c.set_mode.ensures.err some)
