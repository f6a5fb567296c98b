use Rattle.std.proofs.Common.{◌≡◌, drop, fold, map}
use Rattle.cweb_tools.specs.Depend.{targets_after, targets_by}
use Rattle.cweb_tools.proofs.rule_targets.Targets.of.Given as goal

-- The remaining words lead from the targets so far to those of all words.
abbrev pub invariant-words : goal.invariant-words
invariant-words l = fold targets_after l.targets (map (λ word. word.now) (drop l.word-index l.words))
    ≡ targets_by (map (λ word. word.now) l.words)
