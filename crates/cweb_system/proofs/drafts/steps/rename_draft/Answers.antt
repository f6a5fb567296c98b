use Rattle.std.proofs.Common.{string_bytes}
use Rattle.cweb_system.specs.Tree.{MayRename, Renames}
use Rattle.cweb_system.proofs.Steps.{changes_then, keeps, renames_decent}
use Rattle.cweb_system.proofs.drafts.steps.rename_draft.Goals as goal

pub returns-clause-changes : goal.returns-clause-changes
returns-clause-changes g c = changes_then (λ _. MayRename _ _) _ _ _ c.rename.result
    (rw (c.as_str.ensures.value, c.as_str-2.ensures.value) at c.rename.ensures)
    (λ some done may. may c.args.draft.now.key (c.requires.there some) (c.requires.own some))

pub returns-clause-decent : goal.returns-clause-decent
returns-clause-decent g c read unread = keeps read
    (λ _. Renames (string_bytes c.args.draft.now.path) (string_bytes c.args.draft.now.name))
    (returns-clause-changes g c)
    (λ some done. renames_decent read (string_bytes c.args.draft.now.path) (string_bytes c.args.draft.now.name) _ _
    (string_bytes c.args.draft.now.name, c.args.draft.now.is_draft) (c.rename.ensures.place some) (unread some))
