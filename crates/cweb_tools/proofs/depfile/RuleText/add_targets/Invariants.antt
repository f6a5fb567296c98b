use Rattle.std.proofs.Common.{◌≡◌, fold, drop, map}
use Rattle.cweb_tools.specs.Depend.{among_outputs}
use Rattle.cweb_tools.specs.Depfile.{add_word, target_words}
use Rattle.cweb_tools.specs.inner.RuleModel.{wrapped}
use Rattle.cweb_tools.proofs.depfile.RuleText.add_targets.Given as goal

-- The words of the remaining outputs are still to be added.
abbrev pub invariant-targets : goal.invariant-targets
invariant-targets l = fold add_word (wrapped l.self) (target_words (drop l.output (map (λ output. output.name)
    (among_outputs l.fn.targets l.plan.outputs))))
    ≡ fold add_word (wrapped l.fn.self)
    (target_words (map (λ output. output.name) (among_outputs l.fn.targets l.plan.outputs)))
