use Rattle.cweb_rules.proofs.Common.{◌≡◌, ◌≤◌, ◌+◌, ◌-◌, length, prefix_len, is_word_byte}
use Rattle.cweb_rules.proofs.bytes.word_len.Given as goal

abbrev pub invariant-fours : goal.invariant-fours
invariant-fours l = record {
  within : length l.rest ≤ length l.text;
  so_far : prefix_len is_word_byte l.text
      ≡ (length l.text - length l.rest) + prefix_len is_word_byte l.rest;
}

abbrev pub decreases-fours : goal.decreases-fours
decreases-fours l = length l.rest
