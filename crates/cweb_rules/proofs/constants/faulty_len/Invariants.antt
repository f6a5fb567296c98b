use Rattle.cweb_rules.proofs.Common.{◌≡◌, ◌+◌, drop, position_or_len, ends_faulty}
use Rattle.cweb_rules.proofs.constants.faulty_len.Given as goal

abbrev pub invariant-loop-i : goal.invariant-loop-i
invariant-loop-i l = position_or_len ends_faulty l.text ≡ l.i + position_or_len ends_faulty (drop l.i l.text)
