use Rattle.cweb_tools.proofs.Common.{◌≡◌, ◌+◌, length}
use Rattle.cweb_tools.proofs.web.count_parts.Given as goal

abbrev pub invariant-parts : goal.invariant-parts
invariant-parts l = l.count + length l.parts ≡ length l.fn.parts

abbrev pub decreases-parts : goal.decreases-parts
decreases-parts l = length l.parts
