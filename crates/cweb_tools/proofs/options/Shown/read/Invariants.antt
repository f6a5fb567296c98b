use Rattle.cweb_tools.proofs.Common.{◌≡◌, drop, map, words_shown, shown_by_default}
use Rattle.cweb_tools.proofs.options.Shown.read.Given as goal

abbrev pub invariant-words : goal.invariant-words
invariant-words l = words_shown (map (λ word. word.now) (drop l.word-index l.words)) l.shown
    ≡ words_shown (map (λ word. word.now) l.words) shown_by_default
