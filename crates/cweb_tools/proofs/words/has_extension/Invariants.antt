use Rattle.cweb_tools.proofs.Common.{◌≡◌, take, has_extension}
use Rattle.cweb_tools.proofs.words.has_extension.Given as goal

abbrev pub invariant-bytes : goal.invariant-bytes
invariant-bytes l = l.has_dot ≡ has_extension (take l.byte-index l.byte-items)
