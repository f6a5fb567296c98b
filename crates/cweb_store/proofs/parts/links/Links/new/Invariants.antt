use Rattle.cweb_store.proofs.Common.{◌≡◌, ◌+◌, length, drop, AreLinked, reverse}
use Rattle.cweb_store.proofs.parts.links.Links.new.Given as goal

abbrev pub invariant-loop-i : goal.invariant-loop-i
invariant-loop-i l = record {
  linked : AreLinked l.resolutions (drop l.i l.ranges) (reverse l.skips.items) l.heads;
  names : length l.heads.names.items ≡ l.names;
  count : l.i + length l.skips.items ≡ length l.ranges;
}
