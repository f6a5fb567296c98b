use Rattle.std.proofs.Common.{◌≡◌, ◌+◌, arith, ap, take}
use Rattle.cweb_lines.specs.surface.OpenedFileNames.{opened_file_names}
use Rattle.cweb_tools.specs.Depfile.{add_once, each_once}
use Rattle.cweb_tools.proofs.NamesOnce.{name_added, pushes_new, skips_known}
use Rattle.cweb_tools.proofs.depfile.each_once.Goals as goal
use Rattle.cweb_tools.proofs.depfile.each_once.Goals.{then-branch+in_ok-push, else-branch}

pub names-preserved : goal.names-preserved
names-preserved c =
    let names = opened_file_names c.args.names.now in
    let next : add_once (each_once (take c.names.id names)) c.get-name.result.now
    ≡ each_once (take (c.names.id + 1) names) = grind (arith, name_added) in
    elim c.if-branch.branch [
      | then-branch+in_ok-push w ↦ pushes_new _ _ _ _ c.get-name.result _ _ _ c.names.invariant
          c.in_ok-insert.ensures.added next w.if-branch.true c.in_ok-insert.ensures.updates
          (rw w.inputs-is w.in_ok-push.ensures.items)
      | else-branch w ↦ skips_known _ _ _ _ c.get-name.result _ _ _ c.names.invariant c.in_ok-insert.ensures.added
          next w.if-branch.false c.in_ok-insert.ensures.unchanged (ap (λ v. v.items) w.inputs-is)
    ]
