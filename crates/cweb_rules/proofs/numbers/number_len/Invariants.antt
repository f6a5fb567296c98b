use Rattle.cweb_rules.proofs.Common.{◌≡◌, ◌+◌, drop, number_len}
use Rattle.cweb_rules.proofs.numbers.number_len.Given as goal

abbrev pub invariant-loop-i : goal.invariant-loop-i
invariant-loop-i l = number_len 0 l.text ≡ l.i + number_len l.last (drop l.i l.text)
