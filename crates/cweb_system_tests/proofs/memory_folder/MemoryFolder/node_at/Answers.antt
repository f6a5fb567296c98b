use Rattle.std.proofs.Common.{ap, sym, ◌∙◌, Option}
use Rattle.cweb_system.specs.declared.node.Node.{Node}
use Rattle.cweb_system_tests.specs.inner.Log.{node_step}
use Rattle.cweb_system_tests.proofs.Scans.{nodes_next}
use Rattle.cweb_system_tests.proofs.memory_folder.MemoryFolder.node_at.Goals as goal

pub loop-change-preserved : goal.loop-change-preserved
loop-change-preserved c = c.node_after-found.ensures
    ∙ ap (λ (o : Option Node). node_step c.change-item.result c.args.place.now o) c.loop-change.invariant
    ∙ sym (nodes_next c.deref-change-items.result.now c.loop-change.change-index c.change-item.result c.args.place.now
    c.loop-change-test.true c.change-item.is)
