use Rattle.std.proofs.Common.{◌≡◌, ◌∙◌, ◌∷◌, ◌++◌, [], inl, ap, arith, List, take, drop}
use Rattle.cweb_system_tests.specs.declared.memory_folder.log.Change.{Change}
use Rattle.cweb_system_tests.specs.inner.Log.{past_by}
use Rattle.cweb_system_tests.proofs.Changes.{past_push}
use Rattle.cweb_system_tests.proofs.memory_folder.MemoryFolder.make.Goals as goal

pub returns-clause-step : goal.returns-clause-step
returns-clause-step c =
    let folder = c.args.self.now in
    let items : c.push_reserved.new.self.items ≡ folder.log.items ++ c.args.change ∷ [] =
    c.push_reserved.ensures.items ∙ ap (λ (l : List Change). l ++ c.args.change ∷ []) c.reserve.ensures.items in
    inl (ap (λ (l : List Change). past_by folder.layout (take folder.begun l) (drop folder.begun l)) items
    ∙ past_push folder.layout folder.log.items folder.begun c.args.change (omega (arith, c.args.self.now.begun_within)))
