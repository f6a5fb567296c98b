use Rattle.cweb_tools.proofs.Common.{◌≡◌, drop, map, slice_get, other_words}
use Rattle.cweb_tools.proofs.options.other_word.Given as goal

abbrev pub invariant-words : goal.invariant-words
invariant-words l = slice_get (other_words (map (λ word. word.now) (drop l.word-index l.words))) l.left
    ≡ slice_get (other_words (map (λ word. word.now) l.words)) l.number
