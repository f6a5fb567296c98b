use Rattle.cweb_out.proofs.Common.{◌≤◌, length, FrameIsWithin, suffix}
use Rattle.cweb_out.proofs.ScannedUses.{SkipsRanked}
use Rattle.cweb_out.proofs.outputs.search.next_unranked.Given as goal

abbrev pub invariant-uses : goal.invariant-uses
invariant-uses l = record {
  within : FrameIsWithin l.store l.text;
  shorter : length (suffix l.store l.text) ≤ length (suffix l.store l.fn.text);
  passes : SkipsRanked l.store l.marks (suffix l.store l.fn.text) (suffix l.store l.text);
}

abbrev pub decreases-uses : goal.decreases-uses
decreases-uses l = length (suffix l.store l.text)
