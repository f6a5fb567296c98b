use Rattle.cweb_store.proofs.Common.{◌≡◌, ◌+◌, drop}
use Rattle.std.specs.List.{prefix_len}
use Rattle.cweb_store.specs.inner.Squeezing.{is_in_word}
use Rattle.cweb_store.proofs.spelling.word_len.Given as goal

abbrev pub invariant-loop-i : goal.invariant-loop-i
invariant-loop-i l = prefix_len is_in_word l.text ≡ l.i + prefix_len is_in_word (drop l.i l.text)
