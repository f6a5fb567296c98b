use Rattle.cweb_rules.proofs.Common.{◌≡◌, ◌+◌, ◌||◌, ◌==◌, not, drop, prefix_len}
use Rattle.cweb_rules.proofs.plains.plain_in_literal.Given as goal

abbrev pub invariant-loop-i : goal.invariant-loop-i
invariant-loop-i l = prefix_len (λ b. not ((b == 64 || b == 92 || b == l.quote) || b == 10)) l.text
    ≡ l.i + prefix_len (λ b. not ((b == 64 || b == 92 || b == l.quote) || b == 10)) (drop l.i l.text)
