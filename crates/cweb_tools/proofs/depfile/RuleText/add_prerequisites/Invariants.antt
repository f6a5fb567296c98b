use Rattle.std.proofs.Common.{◌≡◌, fold, drop}
use Rattle.cweb_tools.specs.Depfile.{add_word, prerequisite_words}
use Rattle.cweb_tools.specs.inner.RuleModel.{keys_of, wrapped}
use Rattle.cweb_tools.proofs.depfile.RuleText.add_prerequisites.Given as goal

-- The words of the remaining inputs are still to be added.
abbrev pub invariant-inputs : goal.invariant-inputs
invariant-inputs l = fold add_word (wrapped l.self) (prerequisite_words (drop l.at (keys_of l.inputs)))
    ≡ fold add_word (wrapped l.fn.self) (prerequisite_words (keys_of l.inputs))
