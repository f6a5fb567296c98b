use Rattle.cweb_rules.proofs.Common.{◌≡◌, ◌+◌, drop, prefix_len, in_class}
use Rattle.cweb_rules.proofs.bytes.span_len_bytewise.Given as goal

abbrev pub invariant-loop-i : goal.invariant-loop-i
invariant-loop-i l = prefix_len (in_class l.class) l.text ≡ l.i + prefix_len (in_class l.class) (drop l.i l.text)
