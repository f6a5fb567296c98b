use Rattle.std.proofs.Common.{◌≡◌, map, string_bytes, ◌++◌, drop}
use Rattle.cweb_tools.proofs.program.as_slices.Given as goal

-- The slices so far, followed by the remaining words, are all words.
abbrev pub invariant-loop-word : goal.invariant-loop-word
invariant-loop-word l = map (λ slice. slice.now) l.slices.items ++ map string_bytes (drop l.word-index l.words)
    ≡ map string_bytes l.words
