use Rattle.std.proofs.Common.{◌≡◌, ◌++◌, codes, drop}
use Rattle.std.specs.List.{flat_map}
use Rattle.cweb_tools.specs.Depfile.{empty_rule, leader}
use Rattle.cweb_tools.specs.inner.RuleModel.{keys_of, wrapped}
use Rattle.cweb_tools.proofs.depfile.RuleText.finish.Given as goal

-- The empty rules of the remaining inputs are still to be appended.
abbrev pub invariant-inputs : goal.invariant-inputs
invariant-inputs l = l.text.items ++ flat_map (empty_rule (leader (keys_of l.inputs))) (drop l.at (keys_of l.inputs))
    ≡ (wrapped l.fn.self).text
    ++ (codes "\n" ++ flat_map (empty_rule (leader (keys_of l.inputs))) (drop 1 (keys_of l.inputs)))
