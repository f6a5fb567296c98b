use Rattle.std.proofs.Common.{◌≡◌, ◌++◌, replicate}
use Rattle.cweb_tools.proofs.depfile.escape.append_backslashes.Given as goal

abbrev pub invariant-backslashes : goal.invariant-backslashes
invariant-backslashes l = l.text.items ≡ l.fn.text.items ++ replicate l.counter 92
