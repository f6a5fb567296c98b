use Rattle.std.proofs.Common.{subst, take, List, ◌≡◌, ◌∙◌}
use Rattle.std.proofs.lemmas.List.{take_all}
use Rattle.cweb_system_tests.specs.declared.memory_folder.log.Change.{Change}
use Rattle.cweb_system_tests.specs.inner.Log.{KeysBelow}
use Rattle.cweb_system_tests.proofs.Scans.{below_next}
use Rattle.cweb_system_tests.proofs.memory_folder.MemoryFolder.new_number.Goals as goal

pub loop-change-preserved : goal.loop-change-preserved
loop-change-preserved c = below_next c.deref-change-items.result.now c.loop-change.change-index c.loop-change.next
    c.in_ok-next.next c.change-item.result c.loop-change-test.true c.change-item.is c.in_ok-next.ensures.grows
    c.in_ok-next.ensures.above c.loop-change.invariant

pub returns : goal.returns
returns c =
    let whole : take c.loop-change.change-index c.deref-change-items.result.now ≡ c.args.self.now.log.items =
    take_all c.loop-change.change-index c.deref-change-items.result.now c.loop-change-test.false
    ∙ c.deref-change-items.ensures.value in
    subst (λ (l : List Change). KeysBelow c.loop-change.next l) whole c.loop-change.invariant
